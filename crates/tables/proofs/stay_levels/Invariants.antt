-- `tables::stay_levels` meets its contract. The loop's invariant (`mapped`, of `fieldset`): the levels of the first f fields are by the places, the
-- others as they were.
use Prim.Native.Nat.{ℕ}
use mathlib.Core.Path.{◌≡◌}
use mathlib.Core.List.{List}
use Rattle.fieldset.specs.Tables.{at}
use Rattle.tables.specs.Tables.{level_with}
use Rattle.fieldset.proofs.Maps.{mapped}
use Rattle.tables.proofs.stay_levels.Given as goal

-- the level of the setter of f
abbrev pub by : List ℕ → List ℕ → ℕ → ℕ → ℕ
by setter place f = level_with (at setter f) (at place f)

abbrev pub invariant-loop-f : goal.invariant-loop-f
invariant-loop-f l = l.levels ≡ mapped (by l.setter l.place) l.initial.levels l.f
