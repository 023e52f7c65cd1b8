-- `fieldset::meets` meets its contract: by the law `and_meets`.
use Rattle.fieldset.proofs.Bits.{and_meets}
use Rattle.fieldset.proofs.meets.Goals as goal

pub returns : goal.returns
returns c = and_meets c.args.a c.args.b c.ranges.a.fits c.ranges.b.fits
