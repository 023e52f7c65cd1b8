-- `fieldset::minus` meets its contract: by the law `and_minus`.
use Rattle.fieldset.proofs.Bits.{and_minus}
use Rattle.fieldset.proofs.minus.Goals as goal

pub returns : goal.returns
returns c = and_minus c.args.a c.args.b c.ranges.a.fits c.ranges.b.fits
