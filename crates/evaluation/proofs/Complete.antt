-- The run gives whatever is right: where some values within the limits have each field of the plan as its setter would compute it, and keep what has no
-- formula, the run ends, with these values. So there is at most one such set of values, and a run stops early only where there is none. Assumes nothing.
use Prim.Native.Nat.{ℕ, ◌<◌}
use mathlib.Core.Path.{◌≡◌, refl, sym, ap, subst, ◌∙◌}
use mathlib.Core.Bool.{true, false}
use mathlib.Core.List.{List, [], ◌∷◌}
use mathlib.Core.Logic.{◌⊎◌, inl, inr, ⊎_elim, ◌≢◌}
use native.Mathlib.Decide.{ℕ_discrete}
use lib.IntN.{ℤ, pos}
use lib.ListN.{length, set, length-set}
use lib.Seq.{get_or-set_same, get_or-set_other}
use Rattle.std.specs.Prelude.{None}
use Rattle.fieldset.specs.Lists.{In, All}
use Rattle.fieldset.specs.Fields.{member, with}
use Rattle.fieldset.proofs.Fields.{member_with_same, member_with_other, within_member}
use Rattle.values.specs.Limits.{outside, value_at}
use Rattle.formulas.specs.Formulas.{Rule, computed}
use Rattle.evaluation.specs.Runs.{Run, run, Ordered}
use Rattle.evaluation.proofs.Running.{run_value}
use Rattle.evaluation.proofs.Settled.{HeldAt, computed_cong}

-- the values w, as a run is to give them: of each of these fields
pub record Target (formula : ℕ → Rule) (reads : ℕ → ℕ) (w : ℕ → ℤ) (f : ℕ) : Type 0 where
  pub computes : w f ≡ computed (formula f) (reads f) f w
  pub within : outside (w f) ≡ false

-- a run that ends with the values w, of the fields that were listed and of these
pub record Meets (w : ℕ → ℤ) (L : ℕ) (fs : List ℕ) (r : Run) : Type 0 where
  pub fits : r.fits ≡ true
  pub values : (g : ℕ) → g < 64 → (member L g ≡ true) ⊎ In g fs → value_at r.values g ≡ w g

module _ (formula : ℕ → Rule) (reads covered : ℕ → ℕ) (w : ℕ → ℤ) where
  -- the fields that are listed have their values already, and so has what has no formula
  pub complete : (L : ℕ) (fs : List ℕ) (v : List ℤ) → length v ≡ 64 → Ordered reads L fs → All (HeldAt formula reads covered) fs → All (Target formula reads w) fs
      → ((g : ℕ) → g < 64 → member L g ≡ true → value_at v g ≡ w g) → ((g : ℕ) → In g fs → formula g ≡ None → value_at v g ≡ w g)
      → Meets w L fs (run formula reads fs v)
  unfolding run Ordered
  complete L [] v n o held t listed kept = record { fits = refl; values = λ g l h. ⊎_elim (listed g l) (λ i. absurd i) h }
  complete L (f ∷ fs) v n o held t listed kept =
      let z : computed (formula f) (reads f) f (value_at v) ≡ w f =
      computed_cong (value_at v) w (λ g l m. listed g l (within_member (reads f) L g o.1.1.0 l m)) (formula f) held.0 (kept f (inl refl))
      ∙ sym t.0.computes in
      let next : run formula reads (f ∷ fs) v ≡ run formula reads fs (set v f (w f)) =
      run_value formula reads f fs v (ap outside z ∙ t.0.within) ∙ ap (λ (x : ℤ). run formula reads fs (set v f x)) z in
      let rest =
      complete (with L f) fs (set v f (w f)) (length-set v f (w f) ∙ n) o.1.1.1 held.1 t.1
      (λ g l m. go g (ℕ_discrete g f) (λ d. listed g l (sym (member_with_other L f g l d) ∙ m)))
      (λ g i e. go g (ℕ_discrete g f) (λ d. kept g (inr i) e)) in
      subst (Meets w L (f ∷ fs)) (sym next)
      (record { fits = rest.fits; values = λ g l h. rest.values g l (on g l (ℕ_discrete g f) h) })
    where
      go : (g : ℕ) → Dec (g ≡ f) → (g ≢ f → value_at v g ≡ w g) → value_at (set v f (w f)) g ≡ w g
      go g (yes d) h = ap (λ (i : ℕ). value_at (set v f (w f)) i) d ∙ get_or-set_same v f (w f) (pos 0) (rw n o.0) ∙ ap w (sym d)
      go g (no d) h = get_or-set_other v f g (w f) (pos 0) d ∙ h d

      -- f is listed now
      on : (g : ℕ) → g < 64 → Dec (g ≡ f) → (member L g ≡ true) ⊎ In g (f ∷ fs) → (member (with L f) g ≡ true) ⊎ In g fs
      on g l (yes d) h = inl (rw d (member_with_same L f o.0))
      on g l (no d) (inl m) = inl (member_with_other L f g l d ∙ m)
      on g l (no d) (inr (inl e)) = absurd (d e)
      on g l (no d) (inr (inr i)) = inr i
