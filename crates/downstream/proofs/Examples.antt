-- Worked cases of the definitions.
use Prim.Native.Nat.{ℕ}
use mathlib.Core.Path.{◌≡◌, refl}
use mathlib.Core.List.{[], ◌∷◌}
use Rattle.fieldset.specs.Numbers.{any, count}
use Rattle.fieldset.specs.Tables.{at}
use Rattle.fieldset.specs.Fields.{member, set_of, union, only, meets, size}
use Rattle.downstream.specs.Downstream.{readers, spreading, spread, downstream}

-- request 6's case: the setter of field 1 reads field 0, and the setter of field 0 changes
redraws_two : size (spread (at (0 ∷ 1 ∷ [])) 2 1) ≡ 2
unfolding spread spreading readers member set_of union meets any size count
redraws_two = refl

-- each of the fields 1, 2, 3 reads the one before it
abbrev chain : ℕ → ℕ
chain = at (0 ∷ 1 ∷ 2 ∷ 4 ∷ [])

-- the setter of field 1 changes: fields 1, 2, 3
chain_redraws_three : size (spread chain 4 2) ≡ 3
unfolding spread spreading readers member set_of union meets any size count
chain_redraws_three = refl

-- below each field are all later ones
chain_downstream : (downstream chain 4 0 ≡ 14) × (downstream chain 4 1 ≡ 12) × (downstream chain 4 2 ≡ 8) × (downstream chain 4 3 ≡ 0)
unfolding downstream spread spreading readers member set_of union only meets any
chain_downstream = (refl, refl, refl, refl)

-- fields 0 and 1 read each other: each is downstream of itself
ring : downstream (at (2 ∷ 1 ∷ [])) 2 0 ≡ 3
unfolding downstream spread spreading readers member set_of union only meets any
ring = refl
