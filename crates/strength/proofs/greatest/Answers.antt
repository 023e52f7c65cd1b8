-- `strength::greatest` meets its contract: `fill` is asked with no field known (`fill_below`, `none_known`), and what it leaves at depth 64 is so at
-- depth n, since n is above every rank (`topped`).
use mathlib.Core.Path.{refl}
use Rattle.strength.proofs.Gather.{none_below, none_known, fill_below, topped}
use Rattle.strength.proofs.greatest.Goals as goal

pub fill-requires : goal.fill-requires
fill-requires c = let p = c.requires in fill_below p.0 (none_below _) p.1 (none_known _ _ _ p.2)

pub returns : goal.returns
returns c = let p = c.requires in topped p.0 (none_below _) p.1 c.fill.ensures refl
