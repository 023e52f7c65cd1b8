-- Laws of tests that are joined, by cases on each.
use mathlib.Core.Path.{◌≡◌, refl}
use mathlib.Core.Bool.{Bool, true, false, not, ◌&&◌, ◌||◌, and-eq-true_iff, true≢false}

module _ (a b : Bool) where
  pub and_left : (a && b) ≡ true → a ≡ true
  and_left e = ((and-eq-true_iff a b).0 e).0

  pub and_right : (a && b) ≡ true → b ≡ true
  and_right e = ((and-eq-true_iff a b).0 e).1

  pub and_both : a ≡ true → b ≡ true → (a && b) ≡ true
  and_both e f = (and-eq-true_iff a b).1 (e, f)

-- where neither holds
pub or_left : (a b : Bool) → (a || b) ≡ false → a ≡ false
or_left true b e = e
or_left false b e = refl

pub or_right : (a b : Bool) → (a || b) ≡ false → b ≡ false
or_right true b e = absurd (true≢false e)
or_right false b e = e

pub not_or : (a b : Bool) → not (a || b) ≡ (not a && not b)
not_or true b = refl
not_or false b = refl
