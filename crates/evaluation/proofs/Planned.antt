-- A run over document 01's plan. The plan is an order as the run needs it; where there is no loop it lists all n fields, so that all are right after it.
-- Assumes nothing.
use Prim.Native.Nat.{ℕ, zero, suc, ◌≤◌, ◌<◌}
use mathlib.Core.Path.{◌≡◌, refl, sym, ap, subst, ◌∙◌}
use mathlib.Core.Bool.{Bool, true, false}
use mathlib.Core.List.{List, [], ◌∷◌, ◌++◌}
use mathlib.Core.Logic.{◌⊎◌, inl, inr}
use native.Mathlib.Omega.{arith}
use lib.IntN.{ℤ, pos}
use lib.ListN.{length, set, take, drop, length-set, length-append}
use lib.Seq.{get_or-set_same, get_or-set_other, get_or-take, take_at}
use Rattle.std.specs.Prelude.{None}
use Rattle.fieldset.specs.Fields.{with}
use Rattle.fieldset.specs.Tables.{at}
use Rattle.fieldset.specs.Lists.{All}
use Rattle.fieldset.proofs.Lists.{all_at, all_map, whole_in}
use Rattle.values.specs.Limits.{value_at}
use Rattle.ordering.specs.Order.{following, order, has_loop}
use Rattle.ordering.proofs.Plan.{Lists, Stops, step, order_low, order_whole, no_loop_length}
use Rattle.formulas.specs.Formulas.{Rule, computed}
use Rattle.evaluation.specs.Runs.{Run, run, Ran, Runnable, Ready, Stored, Ordered, Settled}
use Rattle.evaluation.proofs.Settled.{HeldAt, run_right, run_keeps}

following_ordered : (reads : ℕ → ℕ) (n : ℕ) → n ≤ 64 → (k L : ℕ) → Ordered reads L (following reads n k L)
unfolding following Ordered
following_ordered reads n few zero L = tt
following_ordered reads n few (suc k) L = go (step reads n k L) (λ f. following_ordered reads n few k (with L f))
  where
    go : ((f : ℕ) × Lists reads n k L f) ⊎ Stops reads n k L → ((f : ℕ) → Ordered reads (with L f) (following reads n k (with L f)))
        → Ordered reads L (following reads n (suc k) L)
    go (inl (f, s)) ih = subst (Ordered reads L) (sym s.is) (omega (arith, s.low), (s.unlisted, (s.reads_listed, ih f)))
    go (inr s) ih = subst (Ordered reads L) (sym s.is) tt

module _ (reads : ℕ → ℕ) (n : ℕ) (few : n ≤ 64) where
  pub order_ordered : Ordered reads 0 (order reads n)
  unfolding order
  order_ordered = following_ordered reads n few n 0

  -- what holds after x was stored in f, whose setter has no formula, and the plan was run to its end
  pub plan_settled : (formula : ℕ → Rule) (covered : ℕ → ℕ) (f : ℕ) (x : ℤ) (v : List ℤ) → has_loop reads n ≡ false → length v ≡ 64
      → ((g : ℕ) → g < n → HeldAt formula reads covered g) → f < 64 → formula f ≡ None
      → (run formula reads (order reads n) (set v f x)).fits ≡ true
      → Settled formula covered n f x v (run formula reads (order reads n) (set v f x)).values
  plan_settled formula covered f x v none long held l keep e = go (run formula reads (order reads n) (set v f x)) refl e
    where
      go : (r : Run) → run formula reads (order reads n) (set v f x) ≡ r → r.fits ≡ true → Settled formula covered n f x v r.values
      go r d t =
          let ends : run formula reads (order reads n) (set v f x) ≡ record { fits = true; values = r.values } =
          d ∙ ap (λ (b : Bool). record { fits = b; values = r.values }) t in
          record {
            has = run_keeps formula reads (order reads n) (set v f x) r.values ends f keep ∙ get_or-set_same v f x (pos 0) (rw long l);
            right = λ g k.
                run_right formula reads covered (order reads n) (set v f x) r.values (length-set v f x ∙ long) order_ordered ends
                (all_map (λ h. h < n) (HeldAt formula reads covered) held (order reads n) (order_low reads n few)) g
                (whole_in n (order reads n) (order_whole reads n few none) g k);
            kept = λ g other k. run_keeps formula reads (order reads n) (set v f x) r.values ends g k ∙ get_or-set_other v f g x (pos 0) other;
          }

-- a run goes by what the setters of its fields read
pub run_cong : (formula : ℕ → Rule) (r s : ℕ → ℕ) (fs : List ℕ) (v : List ℤ) → All (λ f. r f ≡ s f) fs → run formula r fs v ≡ run formula s fs v
unfolding run
run_cong formula r s [] v same = refl
run_cong formula r s (f ∷ fs) v same = rw (same.0, run_cong formula r s fs (set v f (computed (formula f) (s f) f (value_at v))) same.1) refl

-- ---- the plan in a buffer

module _ {formula : ℕ → Rule} {reads : List ℕ} {n : ℕ} (ready : Ready formula reads n) (listed before : List ℕ) (count : ℕ)
    (counted : count ≡ length (order (at reads) n)) (stands : listed ≡ order (at reads) n ++ drop count before) where
  all_listed : count ≡ n
  all_listed = counted ∙ no_loop_length (at reads) n ready.loopless

  -- what is run is the plan
  pub listed_plan : take count listed ≡ order (at reads) n
  listed_plan = ap (take count) stands ∙ take_at (order (at reads) n) (drop count before) count (sym counted)

  listed_low : (i : ℕ) → i < count → at listed i < n
  listed_low i l =
      rw (← get_or-take count listed i 0 l, listed_plan) (all_at (λ f. f < n) 0 (order (at reads) n) (order_low (at reads) n ready.few) i (omega (arith, counted)))

  pub listed_runnable : Runnable formula (at reads) listed count
  listed_runnable = record {
    few = omega (arith, all_listed, ready.few);
    long = omega (arith, ap length stands, length-append (order (at reads) n) (drop count before), counted);
    fields = λ i l. omega (arith, listed_low i l, ready.few);
    usable = λ i l. ready.usable (at listed i) (listed_low i l);
  }

-- stored, or as it was
module _ {result : Run} {b : Bool} {w : List ℤ} (before : List ℤ) (ran : Ran result b w) where
  pub run_stored : b ≡ true → Stored result before b w
  run_stored e = record { answer = ran.answer; left = ran.left ∙ sym (rw (sym ran.answer ∙ e) refl) }

  pub run_dropped : b ≡ false → Stored result before b before
  run_dropped e = record { answer = ran.answer; left = sym (rw (sym ran.answer ∙ e) refl) }
