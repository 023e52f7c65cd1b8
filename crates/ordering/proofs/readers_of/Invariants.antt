-- `ordering::readers_of` meets its contract. The loop's invariant: the sets have the readers among the first f fields. `readers_step` enters the field
-- f as a reader.
use mathlib.Core.Path.{◌≡◌}
use lib.ListN.{length}
use Rattle.fieldset.specs.Tables.{at}
use Rattle.ordering.specs.Steps.{Readers}
use Rattle.ordering.proofs.readers_of.Given as goal

abbrev pub invariant-loop-f : goal.invariant-loop-f
invariant-loop-f l = (length l.readers ≡ 64) × Readers (at l.reads) l.f l.readers
