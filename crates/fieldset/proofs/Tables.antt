-- Laws of tables, by induction on their length, and of runs of stores, by induction on what is stored.
use Prim.Native.Nat.{ℕ, zero, suc, ◌+◌, ◌-◌, ◌<◌}
use mathlib.Core.Path.{◌≡◌, refl, sym, ap, ◌∙◌}
use mathlib.Core.Bool.{cond}
use mathlib.Core.Logic.{◌≢◌}
use mathlib.Core.List.{List, [], ◌∷◌, ◌++◌}
use native.Mathlib.Nat.{not-suc-le-zero, add-zero, add-suc, suc-add}
use native.Mathlib.Numerals.{add-one}
use native.Mathlib.Decide.{ℕ_discrete, dec_lt}
use native.Mathlib.Omega.{arith}
use borrow.Author.Tests.{lt-ltb, le-ltb}
use lib.Dec.{ltb}
use lib.ListN.{length, get_or, set, drop, length-append, length-set, get_or-append}
use lib.Seq.{ext_get_or, get_or_at, get_or-append-add, get_or-drop, get_or-set_same, get_or-set_other, sets, set_at, drop-cons, append_snoc}
use Rattle.fieldset.specs.Tables.{tabulate}

module _ {ℓ} {A : Type ℓ} (f : ℕ → A) where
  pub length_tabulate : (n : ℕ) → length (tabulate f n) ≡ n
  unfolding tabulate
  length_tabulate zero = refl
  length_tabulate (suc n) = length-append (tabulate f n) (f n ∷ []) ∙ omega (arith, length_tabulate n)

  pub get_d_tabulate : (n i : ℕ) (d : A) → i < n → get_or (tabulate f n) i d ≡ f i
  unfolding tabulate
  get_d_tabulate zero i d l = absurd (not-suc-le-zero l)
  get_d_tabulate (suc n) i d l = go (ℕ_discrete i n) (get_d_tabulate n i d)
    where
      go : Dec (i ≡ n) → (i < n → get_or (tabulate f n) i d ≡ f i) → get_or (tabulate f n ++ (f n ∷ [])) i d ≡ f i
      go (yes e) ih = rw e (get_or_at (tabulate f n) (f n) [] d n (length_tabulate n))
      go (no e) ih =
          let h : i < length (tabulate f n) = rw (length_tabulate n) (omega arith) in
          get_or-append (tabulate f n) (f n ∷ []) d i h ∙ ih (omega arith)

pub tabulate_cong : {A : Type 0} (f g : ℕ → A) (n : ℕ) → ((i : ℕ) → i < n → f i ≡ g i) → tabulate f n ≡ tabulate g n
unfolding tabulate
tabulate_cong f g zero h = refl
tabulate_cong f g (suc n) h = rw (tabulate_cong f g n (λ i l. h i (omega arith)), h n (omega arith)) refl

-- a buffer whose first n elements were replaced
pub get_d_tabulated : (f : ℕ → ℕ) (n : ℕ) (before : List ℕ) (i : ℕ) → get_or (tabulate f n ++ drop n before) i 0 ≡ cond (ltb i n) (f i) (get_or before i 0)
get_d_tabulated f n before i = go (dec_lt i n)
  where
    go : Dec (i < n) → get_or (tabulate f n ++ drop n before) i 0 ≡ cond (ltb i n) (f i) (get_or before i 0)
    go (yes h) =
        rw (lt-ltb i n h) (get_or-append (tabulate f n) (drop n before) 0 i (rw (length_tabulate f n) h) ∙ get_d_tabulate f n i 0 h)
    go (no h) =
        let e : i ≡ length (tabulate f n) + (i - n) = omega (arith, length_tabulate f n) in
        let e' : n + (i - n) ≡ i = omega arith in
        rw (le-ltb i n (omega arith))
        (ap (λ (k : ℕ). get_or (tabulate f n ++ drop n before) k 0) e ∙ get_or-append-add (tabulate f n) (drop n before) (i - n) 0
        ∙ get_or-drop n before (i - n) 0 ∙ ap (λ (k : ℕ). get_or before k 0) e')

-- a run of stores, and a further run behind it
pub sets_append : (l : List ℕ) (i : ℕ) (a b : List ℕ) → sets (sets l i a) (i + length a) b ≡ sets l i (a ++ b)
sets_append l i [] b = ap (λ (k : ℕ). sets l k b) (add-zero i)
sets_append l i (x ∷ a) b =
    ap (λ (k : ℕ). sets (sets (set l i x) (suc i) a) k b) (add-suc i (length a) ∙ sym (suc-add i (length a))) ∙ sets_append (set l i x) (suc i) a b

-- a store behind those that stand at the start of a buffer
pub store_next : (before xs : List ℕ) (k x : ℕ) → length xs ≡ k → k < length before
    → set (xs ++ drop k before) k x ≡ (xs ++ (x ∷ [])) ++ drop (k + 1) before
store_next before xs k x e l =
    rw (add-one k, drop-cons before k 0 l)
    (set_at xs (get_or before k 0) (drop (suc k) before) x k e ∙ sym (append_snoc xs x (drop (suc k) before)))

-- a table with another entry is that of a function that differs there alone
pub set_table : {A : Type 0} (d : A) (f g : ℕ → A) (n i : ℕ) (x : A) → i < n → x ≡ g i → ((j : ℕ) → j ≢ i → f j ≡ g j)
    → set (tabulate f n) i x ≡ tabulate g n
set_table d f g n i x l here there =
    ext_get_or d (set (tabulate f n) i x) (tabulate g n) (length-set (tabulate f n) i x ∙ length_tabulate f n ∙ sym (length_tabulate g n))
    (λ j h.
    let k : j < n = omega (arith, length-set (tabulate f n) i x, length_tabulate f n) in
    go j k (ℕ_discrete j i) ∙ sym (get_d_tabulate g n j d k))
  where
    go : (j : ℕ) → j < n → Dec (j ≡ i) → get_or (set (tabulate f n) i x) j d ≡ g j
    go j k (yes e) = rw e (get_or-set_same (tabulate f n) i x d (rw (length_tabulate f n) l) ∙ here)
    go j k (no e) = get_or-set_other (tabulate f n) i j x d e ∙ get_d_tabulate f n j d k ∙ there j e
