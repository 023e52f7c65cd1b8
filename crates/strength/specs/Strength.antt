-- Strength and the reversible path. For the setter of field v, `level v` is its level and `others v` the set of its other outputs.
use Rattle.std.specs.Prelude.{ℕ, zero, suc, max, Bool, true, false, ◌&&◌, List, [], ◌∷◌, eqb}
use Rattle.fieldset.specs.Numbers.{lowest}
use Rattle.fieldset.specs.Fields.{member}

-- the greatest s u of the numbers u below n that pass the test; 0 where none does
unfoldable pub greatest : (ℕ → Bool) → (ℕ → ℕ) → ℕ → ℕ
greatest p s zero = 0
greatest p s (suc n) = max (greatest p s n) (elim (p n) [ true ↦ s n | false ↦ 0 ])

-- "The strength of field v with setter c is the largest of c's level and the strengths of c's other outputs. It is followed upward through
-- the setters, through at most as many fields as the panel has": k fields. (Document 01's strength: walkabout strength.)
unfoldable pub strength : (ℕ → ℕ) → (ℕ → ℕ) → ℕ → ℕ → ℕ
strength level others zero v = 0
strength level others (suc k) v = max (level v) (greatest (member (others v)) (strength level others k) 64)

-- the lowest-numbered field of a set at the strength s; 64 where there is none
unfoldable pub lowest_at : (ℕ → ℕ) → ℕ → ℕ → ℕ
lowest_at str s m = lowest (λ u. member m u && eqb (str u) s) 64 64

-- "take its output of greatest strength; among equals, the lowest-numbered field of a set": the field of the set m where the path starts
unfoldable pub strongest : (ℕ → ℕ) → ℕ → ℕ
strongest str m = lowest_at str (greatest (member m) str 64) m

-- "The walk stops at the first setter whose level equals the strength of v; otherwise it goes on to the lowest-numbered other output of
-- that setter with this same strength": the fields of the walk from v at the strength s, at most k. (Document 01's walk: the reversible path.)
unfoldable pub path : (ℕ → ℕ) → (ℕ → ℕ) → (ℕ → ℕ) → ℕ → ℕ → ℕ → List ℕ
path level others str s zero v = []
path level others str s (suc k) v =
    v ∷ elim (eqb (level v) s) [ true ↦ [] | false ↦ path level others str s k (lowest_at str s (others v)) ]
