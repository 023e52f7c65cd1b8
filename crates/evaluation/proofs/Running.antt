-- The loop over the plan: the run from here on is the whole run.
use Prim.Native.Nat.{ℕ, suc, ◌+◌, ◌≤◌, ◌<◌}
use mathlib.Core.Path.{◌≡◌, refl, sym, ap, ◌∙◌}
use mathlib.Core.Bool.{true, false}
use mathlib.Core.List.{List, ◌∷◌}
use native.Mathlib.Nat.{le_antisymm}
use native.Mathlib.Numerals.{add-one}
use native.Mathlib.Omega.{arith}
use lib.IntN.{ℤ}
use lib.ListN.{take, set}
use lib.Seq.{slice, slice_empty, slice-cons}
use Rattle.std.specs.Prelude.{Option, Some, None}
use Rattle.fieldset.specs.Tables.{at}
use Rattle.values.specs.Limits.{outside, limited_values, limited, value_at}
use Rattle.values.proofs.Limits.{limited_same, limited_none}
use Rattle.formulas.specs.Formulas.{Rule, computed}
use Rattle.evaluation.specs.Runs.{Run, run, Runnable, Ran}

module _ (formula : ℕ → Rule) (reads : ℕ → ℕ) where
  pub run_value : (f : ℕ) (fs : List ℕ) (v : List ℤ) → outside (computed (formula f) (reads f) f (value_at v)) ≡ false
      → run formula reads (f ∷ fs) v ≡ run formula reads fs (set v f (computed (formula f) (reads f) f (value_at v)))
  unfolding run
  run_value f fs v e = rw e refl

  pub run_out : (f : ℕ) (fs : List ℕ) (v : List ℤ) → outside (computed (formula f) (reads f) f (value_at v)) ≡ true
      → run formula reads (f ∷ fs) v ≡ record { fits = false; values = v }
  unfolding run
  run_out f fs v e = rw e refl

  module _ (order : List ℕ) (n : ℕ) (v₀ : List ℤ) where
    pub record Running (v : List ℤ) (i : ℕ) : Type 0 where
      pub upto : i ≤ n
      pub whole : run formula reads (slice i n order) v ≡ run formula reads (take n order) v₀

    pub running_start : Running v₀ 0
    running_start = record { upto = omega arith; whole = refl }

    pub running_end : {v : List ℤ} {i : ℕ} → Running v i → n ≤ i → Ran (run formula reads (take n order) v₀) true v
    unfolding run
    running_end {v} {i} inv l =
        let e : i ≡ n = le_antisymm inv.upto l in
        let done : run formula reads (slice n n order) v ≡ run formula reads (take n order) v₀ = rw e at inv.whole in
        let last : record { fits = true; values = v } ≡ run formula reads (take n order) v₀ = rw (slice_empty n order) at done in
        record { answer = ap (λ (r : Run). r.fits) last; left = ap (λ (r : Run). r.values) last }

    module _ (ready : Runnable formula reads order n) {v : List ℤ} {i : ℕ} (inv : Running v i) (l : i < n)
        {f : ℕ} (field : f ≡ at order i) where
      here : run formula reads (f ∷ slice (suc i) n order) v ≡ run formula reads (take n order) v₀
      here = rw field (rw (slice-cons i n order 0 l ready.long) at inv.whole)

      pub running_step : {o : Option ℤ} {x : ℤ} → limited_values o ≡ limited (computed (formula f) (reads f) f (value_at v)) → o ≡ Some x → Running (set v f x) (i + 1)
      running_step e d =
          let (same, within) = limited_same (computed (formula f) (reads f) f (value_at v)) (ap limited_values (sym d) ∙ e) in
          record {
            upto = omega arith;
            whole = rw (add-one i, same) (sym (run_value f (slice (suc i) n order) v within) ∙ here);
          }

      pub running_out : {o : Option ℤ} → limited_values o ≡ limited (computed (formula f) (reads f) f (value_at v)) → o ≡ None
          → Ran (run formula reads (take n order) v₀) false v
      running_out e d =
          let out = limited_none (computed (formula f) (reads f) f (value_at v)) (ap limited_values (sym d) ∙ e) in
          let stop : record { fits = false; values = v } ≡ run formula reads (take n order) v₀ = sym (run_out f (slice (suc i) n order) v out) ∙ here in
          record { answer = ap (λ (r : Run). r.fits) stop; left = ap (λ (r : Run). r.values) stop }
