-- `fieldset::with` meets its contract: by the law `or_with`.
use Rattle.fieldset.proofs.Bits.{or_with}
use Rattle.fieldset.proofs.with.Goals as goal

pub returns : goal.returns
returns c = or_with c.args.m c.args.i c.ranges.m.fits c.requires
