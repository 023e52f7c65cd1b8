-- Runs of stores: those past the end change nothing, so only as many count as fit; a run with one store more; what stands at the start of a buffer. By
-- induction on what is stored. Assumes nothing.
use mathlib.Core.Path.{◌≡◌, refl, sym, ap, ◌∙◌}
use mathlib.Core.List.{List, [], ◌∷◌}
use Prim.Native.Nat.{ℕ, zero, suc, ◌+◌, ◌≤◌, ◌<◌}
use native.Mathlib.Numerals.{add-one}
use native.Mathlib.Omega.{arith}
use lib.ListN.{length, get_or, take, drop, set, length-take, length-set}
use lib.Seq.{sets, sets-eq, set_out, take-suc, take_at, length-sets}
use Rattle.fieldset.proofs.Tables.{sets_append}

-- stores past the end change nothing
pub sets_out : (l : List ℕ) (i : ℕ) (vs : List ℕ) → length l ≤ i → sets l i vs ≡ l
sets_out l i [] h = refl
sets_out l i (x ∷ vs) h =
    let k : length (set l i x) ≤ suc i = omega (arith, length-set l i x) in
    sets_out (set l i x) (suc i) vs k ∙ set_out l i x h

-- so only as many count as fit
pub sets_fit : (n : ℕ) (l : List ℕ) (i : ℕ) (vs : List ℕ) → length l ≤ i + n → sets l i (take n vs) ≡ sets l i vs
sets_fit zero l i vs h = sym (sets_out l i vs (omega arith))
sets_fit (suc n) l i [] h = refl
sets_fit (suc n) l i (x ∷ vs) h = sets_fit n (set l i x) (suc i) vs (omega (arith, length-set l i x))

-- one more store
pub sets_more : (l : List ℕ) (n : ℕ) (vs : List ℕ) → n < length vs → set (sets l 0 (take n vs)) n (get_or vs n 0) ≡ sets l 0 (take (n + 1) vs)
sets_more l n vs h =
    let e : n ≡ 0 + length (take n vs) = omega (arith, length-take n vs) in
    ap (λ (k : ℕ). set (sets l 0 (take n vs)) k (get_or vs n 0)) e ∙ sets_append l 0 (take n vs) (get_or vs n 0 ∷ [])
    ∙ ap (sets l 0) (sym (take-suc vs n 0 h)) ∙ ap (λ (k : ℕ). sets l 0 (take k vs)) (sym (add-one n))

-- what fits and was stored at the start of a buffer stands there
module _ (l after vs : List ℕ) (n : ℕ) (short : length vs ≤ length l) (put : after ≡ sets l 0 vs) (size : n ≡ length vs) where
  pub start_fits : n ≤ length after
  start_fits = omega (arith, ap length put, length-sets l 0 vs)

  pub start_is : take n after ≡ vs
  start_is = ap (take n) (put ∙ sets-eq vs l 0 (omega arith)) ∙ take_at vs (drop (0 + length vs) l) n (omega arith)
