-- `ordering::ready` meets its contract. The loop's invariant (`Filtering`, of `fieldset`): what is gathered are the fields of the set, but for those
-- that are left, that pass the test. Each field is gathered or passed over (`filter_step`).
use mathlib.Core.Bool.{not}
use Rattle.fieldset.specs.Tables.{at}
use Rattle.fieldset.specs.Fields.{meets}
use Rattle.fieldset.proofs.Emptying.{Filtering}
use Rattle.ordering.proofs.ready.Given as goal

abbrev pub invariant-loop-f : goal.invariant-loop-f
invariant-loop-f l = Filtering (λ f. not (meets (at l.reads f) l.left)) l.set l.out l.f-iterator.rest
