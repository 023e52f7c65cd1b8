-- `keeping::differing` meets its contract. The loop's invariant (`Filtering`, of `fieldset`): what is gathered are the fields of the set, but for
-- those that are left, whose entries differ.
use mathlib.Core.Bool.{not}
use lib.Dec.{eqb}
use Rattle.fieldset.specs.Tables.{at}
use Rattle.fieldset.proofs.Emptying.{Filtering}
use Rattle.keeping.proofs.differing.Given as goal

abbrev pub invariant-loop-f : goal.invariant-loop-f
invariant-loop-f l = Filtering (λ f. not (eqb (at l.shown f) (at l.reads f))) l.stale l.out l.f-iterator.rest
