-- Laws of the limits.
use Prim.Native.Nat.{ℕ, ◌<◌}
use mathlib.Core.Path.{◌≡◌, refl, sym}
use mathlib.Core.Bool.{Bool, true, false, cond, or-true}
use mathlib.Core.List.{[], ◌∷◌}
use native.Mathlib.Omega.{arith}
use borrow.Author.Tests.{ltb-false, le-ltb}
use lib.IntN.{ℤ, pos, negsuc}
use lib.Signed.{lt_z, mag}
use mir.Syntax.{w32}
use mir.Val.{SFits}
use Rattle.std.specs.Prelude.{Option, Some, None, Result, Ok, Err, OkIff}
use Rattle.std.specs.Result.{result_ok}
use Rattle.values.specs.Limits.{least, greatest, outside, limited_values, limited}

-- the values of an answer tell its cases apart
pub limited_apart : (a b : Option ℤ) → limited_values a ≡ limited_values b → a ≡ b
limited_apart (Some x) (Some y) e = cc
limited_apart (Some x) None e = let z : ◌≡◌ {A = ℕ} 0 1 = cc in absurd (omega arith)
limited_apart None (Some y) e = let z : ◌≡◌ {A = ℕ} 0 1 = cc in absurd (omega arith)
limited_apart None None e = refl

pub limited_low : (z : ℤ) → lt_z z least ≡ true → [] ≡ limited z
unfolding limited
limited_low z e = rw e

pub limited_high : (z : ℤ) → lt_z greatest z ≡ true → [] ≡ limited z
unfolding limited
limited_high z e = rw (e, or-true (lt_z z least))

module _ (z : ℤ) (low : lt_z z least ≡ false) (high : lt_z greatest z ≡ false) where
  pub limited_value : z ∷ [] ≡ limited z
  unfolding limited
  limited_value = rw (low, high)

  pub value_fits : SFits w32 z
  value_fits = record { sfits = go z low high }
    where
      go : (z : ℤ) → lt_z z least ≡ false → lt_z greatest z ≡ false → mag z < 2147483648
      go (pos n) low high = omega (arith, ltb-false 2147483647 n high)
      go (negsuc n) low high = omega (arith, ltb-false 2147483647 n low)

-- what fits 32 bits is within the limits
pub limited_fits : {z : ℤ} → SFits w32 z → limited z ≡ z ∷ []
limited_fits {z} h = sym (limited_value z (low z h.sfits) (high z h.sfits))
  where
    low : (z : ℤ) → mag z < 2147483648 → lt_z z least ≡ false
    low (pos n) h = refl
    low (negsuc n) h = le-ltb 2147483647 n (omega arith)

    high : (z : ℤ) → mag z < 2147483648 → lt_z greatest z ≡ false
    high (pos n) h = le-ltb 2147483647 n (omega arith)
    high (negsuc n) h = refl

-- and a result that does not fit is outside
limited_out : (z : ℤ) → ¬ SFits w32 z → [] ≡ limited z
limited_out z none = go (lt_z z least) refl (lt_z greatest z) refl
  where
    go : (low : Bool) → lt_z z least ≡ low → (high : Bool) → lt_z greatest z ≡ high → [] ≡ limited z
    go true e high f = limited_low z e
    go false e true f = limited_high z f
    go false e false f = absurd (none (value_fits z e f))

-- so what a conversion to 32 bits answers is held to the limits
pub limited_ok : {E : Type 0} (z : ℤ) (r : Result ℤ E) → OkIff r (SFits w32 z) z → limited_values (result_ok r) ≡ limited z
limited_ok z (Ok x) (h, e) = rw e (sym (limited_fits h))
limited_ok z (Err e) h = limited_out z h

-- a result that is answered is within the limits
pub limited_same : (z : ℤ) {x : ℤ} → x ∷ [] ≡ limited z → (x ≡ z) × (outside z ≡ false)
unfolding limited
limited_same z {x} e = go (outside z) refl e
  where
    go : (b : Bool) → outside z ≡ b → x ∷ [] ≡ cond b [] (z ∷ []) → (x ≡ z) × (outside z ≡ false)
    go true d e = let q : ◌≡◌ {A = ℕ} 0 1 = cc in absurd (omega arith)
    go false d e = (cc, d)

-- and one that is not is outside
pub limited_none : (z : ℤ) → [] ≡ limited z → outside z ≡ true
unfolding limited
limited_none z e = go (outside z) refl e
  where
    go : (b : Bool) → outside z ≡ b → [] ≡ cond b [] (z ∷ []) → outside z ≡ true
    go true d e = d
    go false d e = let q : ◌≡◌ {A = ℕ} 0 1 = cc in absurd (omega arith)
