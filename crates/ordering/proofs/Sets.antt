-- Laws of tests and of two sets of fields: within and meets, by a field that the one has and the other has or lacks.
use Prim.Native.Nat.{ℕ, ◌<◌}
use mathlib.Core.Path.{◌≡◌, refl, sym, ap, ◌∙◌}
use mathlib.Core.Bool.{Bool, true, false, not, ◌&&◌, ◌||◌, and_comm}
use mathlib.Core.Logic.{◌⊎◌, inl, inr}
use borrow.Author.Tests.{not-true, not-false}
use Rattle.fieldset.specs.Fields.{member, without, meets, within}
use Rattle.fieldset.proofs.Tests.{and_left, and_right, and_both}
use Rattle.fieldset.proofs.Fields.{without_failing}
pub use Rattle.fieldset.proofs.Fields.{without_cases}
use Rattle.fieldset.proofs.Numbers.{any_here, any_none, any_found, any_false, any_cong}

pub or_cases : (a b : Bool) → (a || b) ≡ true → (a ≡ true) ⊎ (b ≡ true)
or_cases true b e = inl refl
or_cases false b e = inr e

-- two tests that pass together are equal
pub test_ext : (a b : Bool) → (a ≡ true → b ≡ true) → (b ≡ true → a ≡ true) → a ≡ b
test_ext true b f g = sym (f refl)
test_ext false true f g = g refl
test_ext false false f g = refl

-- where a is not within b, a field of a is not in b
pub within_not : (a b : ℕ) → within a b ≡ false → (i : ℕ) × (i < 64) × (member a i ≡ true) × (member b i ≡ false)
unfolding within
within_not a b e =
    let (i, l, h) = any_found (λ j. member a j && not (member b j)) 64 (not-false _ e) in
    (i, l, and_left (member a i) (not (member b i)) h, not-true (member b i) (and_right (member a i) (not (member b i)) h))

pub within_cong : (a b c : ℕ) → ((i : ℕ) → i < 64 → member a i ≡ member b i) → within a c ≡ within b c
unfolding within
within_cong a b c h = ap not (any_cong _ _ 64 (λ i l. ap (λ x. x && not (member c i)) (h i l)))

module _ (a b : ℕ) where
  pub meets_found : meets a b ≡ true → (i : ℕ) × (i < 64) × (member a i ≡ true) × (member b i ≡ true)
  unfolding meets
  meets_found e =
      let (i, l, h) = any_found (λ j. member a j && member b j) 64 e in
      (i, l, and_left (member a i) (member b i) h, and_right (member a i) (member b i) h)

  pub meets_none : ((i : ℕ) → i < 64 → member a i ≡ true → member b i ≡ false) → meets a b ≡ false
  unfolding meets
  meets_none h = any_none (λ j. member a j && member b j) 64 (λ i l. go i l (member a i) refl)
    where
      go : (i : ℕ) → i < 64 → (x : Bool) → member a i ≡ x → (x && member b i) ≡ false
      go i l true e = h i l e
      go i l false e = refl

  pub meets_not : meets a b ≡ false → (i : ℕ) → i < 64 → member a i ≡ true → member b i ≡ false
  unfolding meets
  meets_not e i l f = rw f at (any_false (λ j. member a j && member b j) 64 i e l)

  pub meets_some : (i : ℕ) → i < 64 → member a i ≡ true → member b i ≡ true → meets a b ≡ true
  unfolding meets
  meets_some i l e f = any_here (λ j. member a j && member b j) 64 i l (and_both (member a i) (member b i) e f)

  -- a field that a has not may go
  pub meets_without : (f : ℕ) → member a f ≡ false → meets a (without b f) ≡ meets a b
  unfolding meets
  meets_without f e =
      any_cong _ _ 64 (λ j l. and_comm (member a j) (member (without b f) j) ∙ without_failing (member a) b f e j l ∙ and_comm (member b j) (member a j))
