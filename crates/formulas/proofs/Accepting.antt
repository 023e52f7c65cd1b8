-- What a formula that kind 08 accepts is known to be.
use Prim.Native.Nat.{ℕ, ◌≤◌, ◌<◌}
use mathlib.Core.Path.{◌≡◌}
use mathlib.Core.Bool.{true, false, ◌&&◌}
use native.Mathlib.Omega.{arith}
use borrow.Author.Tests.{lt-ltb, le-ltb, le-leb, ltb-true, leb-true, eqb-true}
use lib.Dec.{eqb, leb, ltb}
use Rattle.std.specs.Prelude.{Some, None}
use Rattle.fieldset.specs.Fields.{member, size}
use Rattle.fieldset.proofs.Tests.{and_left, and_right}
use Rattle.formulas.specs.declared.Formula.TheVariants.{Ratio, Sum}
use Rattle.formulas.specs.Formulas.{Rule, is_term, accepted}

term : (p : ℕ) → is_term p ≡ true → (0 < p) × (p ≤ 65535)
term p e = (ltb-true 0 p (and_left (ltb 0 p) (leb p 65535) e), leb-true p 65535 (and_right (ltb 0 p) (leb p 65535) e))

module _ (p q covered : ℕ) (e : accepted (Some (Ratio p q)) covered ≡ true) where
  ratio_rest : (is_term q && eqb (size covered) 2) ≡ true
  unfolding accepted
  ratio_rest = and_right (is_term p) (is_term q && eqb (size covered) 2) e

  -- "p and q from 1 to 65,535"
  pub ratio_terms : (p ≤ 65535) × (q ≤ 65535)
  unfolding accepted
  ratio_terms = ((term p (and_left (is_term p) _ e)).1, (term q (and_left (is_term q) _ ratio_rest)).1)

  pub ratio_accepted : (0 < p) × ((0 < q) × (size covered ≡ 2))
  unfolding accepted
  ratio_accepted = (
    (term p (and_left (is_term p) _ e)).0,
    ((term q (and_left (is_term q) _ ratio_rest)).0, eqb-true (size covered) 2 (and_right (is_term q) _ ratio_rest)),
  )

pub sum_accepted : (g covered : ℕ) → accepted (Some (Sum g)) covered ≡ true → (g < 64) × (member covered g ≡ true)
unfolding accepted
sum_accepted g covered e = (
  ltb-true g 64 (and_left (ltb g 64) (member covered g && leb 2 (size covered)) e),
  and_left (member covered g) (leb 2 (size covered)) (and_right (ltb g 64) (member covered g && leb 2 (size covered)) e),
)
