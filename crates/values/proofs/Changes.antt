-- What the tests of changed values mean: two values differ exactly when they are not equal (`differ_exactly`), and the set of fields whose values
-- changed has exactly those whose values are not equal (`member_revalued`).
use Prim.Native.Nat.{ℕ, ◌<◌}
use mathlib.Core.Path.{◌≡◌, refl, sym, ap, ◌∙◌}
use mathlib.Core.Bool.{Bool, true, false, ◌||◌}
use mathlib.Core.List.{List}
use mathlib.Core.Logic.{◌≢◌, ◌↔◌}
use native.Mathlib.Omega.{arith}
use borrow.Author.Tests.{le-ltb, ltb-true, ltb-false}
use lib.Dec.{ltb}
use lib.IntN.{ℤ, pos, negsuc}
use mir.Syntax.{w32}
use mir.Val.{SFits, of_z, to_z}
use mir.Facts.{to_z-of_z}
use Rattle.fieldset.specs.Fields.{member}
use Rattle.fieldset.proofs.Tests.{and_left, and_right}
use Rattle.fieldset.proofs.Numbers.{clash}
use Rattle.fieldset.proofs.Fields.{set_of_lt, member_setOf, member_setOf_lt, empty_of_none}
use Rattle.values.specs.Limits.{value_at}
use Rattle.values.specs.Changes.{differ, revalued}

-- ---- two values

differ_self : (a : ℤ) → differ a a ≡ false
differ_self (pos n) = rw (le-ltb n n (omega arith)) refl
differ_self (negsuc n) = rw (le-ltb n n (omega arith)) refl

-- two natural numbers of which neither is less
neither_less : (m n : ℕ) → (ltb m n || ltb n m) ≡ false → m ≡ n
neither_less m n e = go (ltb m n) refl (ltb n m) refl
  where
    go : (b : Bool) → ltb m n ≡ b → (c : Bool) → ltb n m ≡ c → m ≡ n
    go true x c y = absurd (clash (rw x refl) e)
    go false x true y = absurd (clash (rw (x, y) refl) e)
    go false x false y = omega (arith, ltb-false m n x, ltb-false n m y)

same_of : (a b : ℤ) → differ a b ≡ false → a ≡ b
same_of (pos m) (pos n) e = ap pos (neither_less m n e)
same_of (pos m) (negsuc n) e = absurd (clash refl e)
same_of (negsuc m) (pos n) e = absurd (clash refl e)
same_of (negsuc m) (negsuc n) e = ap negsuc (sym (neither_less n m e))

not_differ : {a b : ℤ} → a ≡ b → differ a b ≡ false
not_differ {a} {b} e = ap (λ (x : ℤ). differ x b) e ∙ differ_self b

pub differ_exactly : (a b : ℤ) → differ a b ≡ true ↔ (a ≢ b)
differ_exactly a b = (λ e d. clash e (not_differ d), λ apart. go apart (differ a b) refl)
  where
    go : a ≢ b → (x : Bool) → differ a b ≡ x → x ≡ true
    go apart true e = refl
    go apart false e = absurd (apart (same_of a b e))

-- what the test of two values' bits tells
pub bits_differ : (a b : ℤ) → (of_z w32 a ≡ of_z w32 b → ⊥) → differ a b ≡ true
bits_differ a b apart = (differ_exactly a b).1 (λ e. apart (ap (of_z w32) e))

pub bits_same : {a b : ℤ} → SFits w32 a → SFits w32 b → of_z w32 a ≡ of_z w32 b → differ a b ≡ false
bits_same {a} {b} h k e = not_differ (sym (to_z-of_z h) ∙ ap (to_z w32) e ∙ to_z-of_z k)

-- ---- the fields whose values changed

module _ (n : ℕ) (before after : List ℤ) where
  pub member_revalued : (g : ℕ) → member (revalued n before after) g ≡ true ↔ ((g < n) × (value_at before g ≢ value_at after g))
  unfolding revalued
  member_revalued g = (
    λ e.
        let h = sym (member_setOf other n g) ∙ e in
        (ltb-true g n (and_left (ltb g n) (other g) h), (differ_exactly _ _).0 (and_right (ltb g n) (other g) h)),
    λ h. member_setOf_lt other n g h.0 ∙ (differ_exactly _ _).1 h.1,
  )
    where
      other : ℕ → Bool
      other f = differ (value_at before f) (value_at after f)

-- nothing differs from itself
pub revalued_same : (n : ℕ) (values : List ℤ) → revalued n values values ≡ 0
unfolding revalued
revalued_same n values =
    empty_of_none n _ (set_of_lt _ n) (λ f l. member_setOf_lt (λ f. differ (value_at values f) (value_at values f)) n f l ∙ differ_self (value_at values f))
