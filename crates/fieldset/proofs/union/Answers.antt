-- `fieldset::union` meets its contract: by the law `or_union`.
use Rattle.fieldset.proofs.Bits.{or_union}
use Rattle.fieldset.proofs.union.Goals as goal

pub returns : goal.returns
returns c = or_union c.args.a c.args.b c.ranges.a.fits c.ranges.b.fits
