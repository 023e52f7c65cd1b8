-- `fieldset::without_lowest` meets its contract: by the law `and_without_lowest`.
use Rattle.fieldset.proofs.Bits.{and_without_lowest}
use Rattle.fieldset.proofs.without_lowest.Goals as goal

pub returns : goal.returns
returns c = and_without_lowest c.args.m c.requires c.ranges.m.fits
