-- `fieldset::within` meets its contract: by the law `and_within`.
use Rattle.fieldset.proofs.Bits.{and_within}
use Rattle.fieldset.proofs.within.Goals as goal

pub returns : goal.returns
returns c = and_within c.args.a c.args.b c.ranges.a.fits c.ranges.b.fits
