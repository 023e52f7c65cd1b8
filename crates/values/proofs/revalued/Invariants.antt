-- `values::revalued` meets its contract. The loop's invariant: the set has those of the first f fields whose values differ. By cases on the two values,
-- `set_of_step` takes the step.
use mathlib.Core.Path.{◌≡◌}
use Rattle.fieldset.specs.Fields.{set_of}
use Rattle.values.specs.Limits.{value_at}
use Rattle.values.specs.Changes.{differ}
use Rattle.values.proofs.revalued.Given as goal

abbrev pub invariant-loop-f : goal.invariant-loop-f
invariant-loop-f l = l.set ≡ set_of (λ f. differ (value_at l.before f) (value_at l.after f)) l.f
