-- Worked cases of the definitions.
use mathlib.Core.Path.{◌≡◌, refl}
use mathlib.Core.Bool.{true, false}
use mathlib.Core.List.{[], ◌∷◌}
use Rattle.fieldset.specs.Numbers.{any}
use Rattle.fieldset.specs.Tables.{at}
use Rattle.fieldset.specs.Fields.{member, set_of, union, only, meets}
use Rattle.downstream.specs.Downstream.{readers, spreading, spread, downstream}
use Rattle.keeping.specs.Keeping.{upstream, loops_through}

-- field 1 reads 0, field 2 reads 1, and field 3 is apart: fields 0, 1, 2 are upstream of 2
chain : upstream (at (0 ∷ 1 ∷ 2 ∷ 0 ∷ [])) 4 4 ≡ 7
unfolding upstream downstream spread spreading readers member set_of union only meets any
chain = refl

-- fields 0 and 1 read each other, and field 2 reads 1: a loop goes through 0, none through 2
ring : (loops_through (at (2 ∷ 1 ∷ 2 ∷ [])) 3 1 ≡ true) × (loops_through (at (2 ∷ 1 ∷ 2 ∷ [])) 3 4 ≡ false)
unfolding loops_through upstream downstream spread spreading readers member set_of union only meets any
ring = (refl, refl)
