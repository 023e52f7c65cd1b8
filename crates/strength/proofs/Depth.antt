-- Laws of `strength`, by induction on the depth. Where a rank falls from each field to the other outputs of its setter, a depth above the rank does
-- not matter (`strength_stable`); so the strength of a field is the largest of its level and the strengths of those outputs (`strength_fixed`). A
-- potential, which is at least the level and does not rise to those outputs, bounds it (`strength_bound_in`).
use Prim.Native.Nat.{ℕ, zero, suc, ◌≤◌, ◌<◌, max, zero-le}
use mathlib.Core.Path.{◌≡◌, refl, ap}
use mathlib.Core.Bool.{true}
use native.Mathlib.Nat.{le_trans, not-suc-le-zero}
use native.Mathlib.Omega.{arith}
use Rattle.fieldset.specs.Fields.{member}
use Rattle.fieldset.proofs.Numbers.{clash}
use Rattle.fieldset.proofs.Fields.{member_empty}
use Rattle.strength.specs.Strength.{greatest, strength}
use Rattle.strength.proofs.Maxima.{greatest_cong, greatest_ge, greatest_le}

-- rank falls from each field to the other outputs of its setter
abbrev pub Falls : (ℕ → ℕ) → (ℕ → ℕ) → Type 0
Falls others rank = (v u : ℕ) → v < 64 → u < 64 → member (others v) u ≡ true → rank u < rank v

module _ (level others : ℕ → ℕ) where
  pub strength_level : (n v : ℕ) → 0 < n → level v ≤ strength level others n v
  unfolding strength
  strength_level zero v h = absurd (not-suc-le-zero h)
  strength_level (suc n) v h = omega arith

  -- a setter with no other output
  pub strength_alone : (n v : ℕ) → 0 < n → others v ≡ 0 → strength level others n v ≡ level v
  unfolding strength
  strength_alone zero v h e = absurd (not-suc-le-zero h)
  strength_alone (suc n) v h e =
      omega (arith, greatest_le (member (others v)) (strength level others n) 64 0 (λ u l i. absurd (clash (rw e at i) (member_empty u))))

  -- s is a potential on a closed set of fields: it bounds their strengths
  pub strength_bound_in : (P : ℕ → Type 0) (s : ℕ → ℕ) → ((f u : ℕ) → P f → u < 64 → member (others f) u ≡ true → P u)
      → ((f : ℕ) → P f → level f ≤ s f) → ((f u : ℕ) → P f → u < 64 → member (others f) u ≡ true → s u ≤ s f)
      → (k f : ℕ) → P f → strength level others k f ≤ s f
  unfolding strength
  strength_bound_in P s closed hl ho zero f h = zero-le
  strength_bound_in P s closed hl ho (suc k) f h =
      omega (
        arith,
        hl f h,
        greatest_le (member (others f)) (strength level others k) 64 (s f)
            (λ u l e. le_trans (strength_bound_in P s closed hl ho k u (closed f u h l e)) (ho f u h l e)),
      )

  module _ (rank : ℕ → ℕ) (falls : Falls others rank) where
    -- above the rank the depth does not matter
    pub strength_stable : (a b v : ℕ) → v < 64 → rank v < a → rank v < b → strength level others a v ≡ strength level others b v
    unfolding strength
    strength_stable zero b v h p q = absurd (not-suc-le-zero p)
    strength_stable (suc a) zero v h p q = absurd (not-suc-le-zero q)
    strength_stable (suc a) (suc b) v h p q =
        ap (max (level v))
        (greatest_cong (member (others v)) (member (others v)) (strength level others a) (strength level others b) 64 (λ u l. refl)
        (λ u l e. strength_stable a b u l (omega (arith, falls v u h l e)) (omega (arith, falls v u h l e))))

    -- the fixed point
    pub strength_fixed : (n v : ℕ) → v < 64 → rank v < n
        → strength level others n v ≡ max (level v) (greatest (member (others v)) (strength level others n) 64)
    unfolding strength
    strength_fixed zero v h p = absurd (not-suc-le-zero p)
    strength_fixed (suc n) v h p =
        ap (max (level v))
        (greatest_cong (member (others v)) (member (others v)) (strength level others n) (strength level others (suc n)) 64 (λ u l. refl)
        (λ u l e. strength_stable n (suc n) u l (omega (arith, falls v u h l e)) (omega (arith, falls v u h l e))))

    -- no other output of its setter has more
    pub strength_other : (n v u : ℕ) → v < 64 → u < 64 → rank v < n → member (others v) u ≡ true
        → strength level others n u ≤ strength level others n v
    strength_other n v u h l p e =
        omega (arith, strength_fixed n v h p, greatest_ge (member (others v)) (strength level others n) 64 u l e)
