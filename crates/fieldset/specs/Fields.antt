-- A set of fields is one 64-bit number, bit i for field i (document 01, "Fields, links, stays").
use Rattle.std.specs.Prelude.{ℕ, zero, suc, ◌+◌, ◌/◌, ◌%◌, ◌^◌, ◌<◌, ◌≡◌, Bool, true, not, ◌&&◌, ◌||◌, cond, eqb, ltb}
use Rattle.fieldset.specs.Numbers.{count, any, lowest}

-- field i is in the set m: bit i of m is 1
unfoldable pub member : ℕ → ℕ → Bool
member m i = eqb (m / 2 ^ i % 2) 1

-- the set of the fields below n that pass the test
unfoldable pub set_of : (ℕ → Bool) → ℕ → ℕ
set_of p zero = 0
set_of p (suc n) = set_of p n + cond (p n) (2 ^ n) 0

-- the set m and the field i
unfoldable pub with : ℕ → ℕ → ℕ
with m i = set_of (λ j. member m j || eqb j i) 64

-- the set m but for the field i
unfoldable pub without : ℕ → ℕ → ℕ
without m i = set_of (λ j. member m j && not (eqb j i)) 64

-- the fields of a and of b
unfoldable pub union : ℕ → ℕ → ℕ
union a b = set_of (λ j. member a j || member b j) 64

-- the set of the one field i
unfoldable pub only : ℕ → ℕ
only i = set_of (λ j. eqb j i) 64

-- all fields below n
unfoldable pub below : ℕ → ℕ
below n = set_of (λ j. ltb j n) 64

-- the lowest-numbered field of a set; 64 for the empty set
unfoldable pub lowest_of : ℕ → ℕ
lowest_of m = lowest (member m) 64 64

-- u is the lowest-numbered field of the set m, which has 64 bits
pub record First (m u : ℕ) : Type 0 where
  pub fits : m < 2 ^ 64
  pub field : u < 64
  pub is_lowest : u ≡ lowest_of m
  pub is_in : member m u ≡ true

-- the fields of the set m that pass the test
unfoldable pub filter : (ℕ → Bool) → ℕ → ℕ
filter p m = set_of (λ j. member m j && p j) 64

-- the fields of a that are not in b
abbrev pub minus : ℕ → ℕ → ℕ
minus a b = filter (λ j. not (member b j)) a

-- how many fields a set has
unfoldable pub size : ℕ → ℕ
size m = count (member m) 64

-- some field is in a and in b
unfoldable pub meets : ℕ → ℕ → Bool
meets a b = any (λ j. member a j && member b j) 64

-- every field of a is in b
unfoldable pub within : ℕ → ℕ → Bool
within a b = not (any (λ j. member a j && not (member b j)) 64)

-- the same, field by field
abbrev pub Within : ℕ → ℕ → Type 0
Within a b = (u : ℕ) → u < 64 → member a u ≡ true → member b u ≡ true
