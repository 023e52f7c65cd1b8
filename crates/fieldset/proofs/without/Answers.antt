-- `fieldset::without` meets its contract: by the law `and_without`.
use Rattle.fieldset.proofs.Bits.{and_without}
use Rattle.fieldset.proofs.without.Goals as goal

pub returns : goal.returns
returns c = and_without c.args.m c.args.i c.ranges.m.fits c.requires
