-- `fieldset::first` meets its contract: by the law `first_is`.
use Rattle.fieldset.proofs.Emptying.{first_is}
use Rattle.fieldset.proofs.first.Goals as goal

pub returns : goal.returns
returns c = first_is c.ranges.m.fits c.requires c.lowest.ensures
