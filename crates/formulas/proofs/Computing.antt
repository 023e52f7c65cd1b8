-- Laws of what a setter computes, one for each case.
use Prim.Native.Nat.{ℕ, ◌*◌, ◌^◌, ◌≤◌, ◌<◌}
use mathlib.Core.Path.{◌≡◌, sym, ap, subst, ◌∙◌}
use mathlib.Core.Logic.{◌≢◌}
use native.Mathlib.Omega.{arith}
use borrow.Author.Tests.{lt-ltb, le-ltb, eq-eqb, ne_eqb}
use mathlib.Core.List.{List, [], ◌∷◌}
use lib.ListN.{get_or}
use lib.IntN.{ℤ, nat_abs, ◌-ℤ◌}
use mir.Syntax.{w32, w64}
use mir.Val.{SFits}
use Rattle.std.specs.Prelude.{Some, None}
use Rattle.fieldset.specs.Tables.{at}
use Rattle.fieldset.specs.Fields.{without, lowest_of}
use Rattle.fieldset.proofs.Fields.{lowest_of_lt}
use Rattle.values.specs.Limits.{limited}
use Rattle.values.specs.Ratios.{scaled}
use Rattle.values.specs.Sums.{total}
use Rattle.values.proofs.Integers.{nat_abs_minus, fits_small, value_small}
use Rattle.values.proofs.Limits.{limited_fits}
use Rattle.formulas.specs.declared.Formula.TheVariants.{Ratio, Sum}
use Rattle.formulas.specs.Formulas.{Rule, computed, Usable, formula_of}

module _ {formula : Rule} (reads f : ℕ) (v : ℕ → ℤ) where
  pub kept : formula ≡ None → SFits w32 (v f) → v f ∷ [] ≡ limited (computed formula reads f v)
  unfolding computed
  kept e h = rw e (sym (limited_fits h))

  module _ {p q : ℕ} (e : formula ≡ Some (Ratio p q)) where
    module _ {g : ℕ} (low : g ≡ lowest_of reads) {r : List ℤ} where
      pub ratio_up : g < f → r ≡ limited (scaled (v g) p q) → r ≡ limited (computed formula reads f v)
      unfolding computed
      ratio_up l h = h ∙ ap limited (rw (e, low, lt-ltb (lowest_of reads) f (rw low at l)))

      pub ratio_down : f ≤ g → r ≡ limited (scaled (v g) q p) → r ≡ limited (computed formula reads f v)
      unfolding computed
      ratio_down l h = h ∙ ap limited (rw (e, low, le-ltb (lowest_of reads) f (rw low at l)))

  module _ {g : ℕ} (e : formula ≡ Some (Sum g)) where
    pub sum_here : {z : ℤ} {r : List ℤ} → f ≡ g → z ≡ total v reads → r ≡ limited z → r ≡ limited (computed formula reads f v)
    unfolding computed
    sum_here d t h = h ∙ ap limited (t ∙ rw (e, eq-eqb f g d))

    pub sum_there : {z : ℤ} {r : List ℤ} → f ≢ g → z ≡ v g -ℤ total v (without reads g) → r ≡ limited z → r ≡ limited (computed formula reads f v)
    unfolding computed
    sum_there d t h = h ∙ ap limited (t ∙ rw (e, ne_eqb f g d))

-- a value less a sum fits 64 bits
pub less_fits : {a : ℤ} (b : ℤ) → SFits w32 a → nat_abs b ≤ 64 * 2147483648 → SFits w64 (a -ℤ b)
less_fits {a} b h k = fits_small (omega (arith, nat_abs_minus a b, value_small h))

-- the field that a ratio reads
pub other_low : {g : ℕ} (reads : ℕ) → reads < 2 ^ 64 → 0 < reads → g ≡ lowest_of reads → g < 64
other_low reads fits some e = rw e (lowest_of_lt reads fits some)

-- what a formula can be used with
pub ratio_usable : {formula : Rule} {p q : ℕ} (reads : ℕ) → formula ≡ Some (Ratio p q) → Usable formula reads → (0 < p) × ((0 < q) × (0 < reads))
unfolding Usable
ratio_usable reads e u = subst (λ (x : Rule). Usable x reads) e u

pub sum_usable : {formula : Rule} {g : ℕ} (reads : ℕ) → formula ≡ Some (Sum g) → Usable formula reads → g < 64
unfolding Usable
sum_usable reads e u = subst (λ (x : Rule). Usable x reads) e u

-- the formula of a field's setter: a link's, or a stay's
module _ (rules : List Rule) (setter : List ℕ) (f : ℕ) {c : ℕ} {formula : Rule} (setting : c ≡ at setter f) where
  pub formula_link : c < 128 → formula ≡ get_or rules c None → formula ≡ formula_of rules setter f
  formula_link l e = e ∙ rw (setting, lt-ltb (at setter f) 128 (rw setting at l))

  pub formula_stay : 128 ≤ c → formula ≡ None → formula ≡ formula_of rules setter f
  formula_stay l e = e ∙ rw (le-ltb (at setter f) 128 (rw setting at l))
