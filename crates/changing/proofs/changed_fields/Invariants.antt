-- `changing::changed_fields` meets its contract. The loop's invariant: the set has those of the first f fields whose setters differ. By cases on the
-- two setters, `set_of_step` takes the step.
use mathlib.Core.Path.{◌≡◌}
use mathlib.Core.Bool.{not}
use lib.Dec.{eqb}
use Rattle.fieldset.specs.Tables.{at}
use Rattle.fieldset.specs.Fields.{set_of}
use Rattle.changing.proofs.changed_fields.Given as goal

abbrev pub invariant-loop-f : goal.invariant-loop-f
invariant-loop-f l = l.set ≡ set_of (λ f. not (eqb (at l.before f) (at l.after f))) l.f
