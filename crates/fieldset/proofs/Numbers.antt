-- Laws of the numbers below n that pass a test: of sums over them, of how many there are, and of the lowest. All are by induction on n; what holds of
-- a count holds of the sum of ones, and what holds of the lowest follows from there being only one (`lowest_same`).
use Prim.Native.Nat.{ℕ, zero, suc, ◌+◌, ◌≤◌, ◌<◌, zero-le}
use mathlib.Core.Path.{◌≡◌, refl, sym, ap, ◌∙◌, subst}
use mathlib.Core.Bool.{Bool, true, false, not, ◌&&◌, ◌||◌, cond, and-true, and-false, and-not_self, or-true, true≢false}
use mathlib.Core.Logic.{◌⊎◌, inl, inr, ◌≢◌}
use native.Mathlib.Nat.{le_refl, le-suc, le_trans, le_antisymm, le_of_suc-le-suc, lt_of_not-le, not-suc-le-zero}
use native.Mathlib.Decide.{ℕ_discrete, dec_lt}
use native.Mathlib.Omega.{arith}
use borrow.Author.Tests.{lt-ltb, le-ltb, ltb-true, ltb-false, eq-eqb, ne_eqb}
use lib.Dec.{eqb, ltb}
use Rattle.fieldset.specs.Numbers.{count, any, lowest}

pub clash : {b : Bool} → b ≡ true → b ≡ false → ⊥
clash t f = true≢false (sym t ∙ f)

pub ltb_suc : (j n : ℕ) → j ≢ n → ltb j n ≡ ltb j (suc n)
ltb_suc j n d = go (dec_lt j n)
  where
    go : Dec (j < n) → ltb j n ≡ ltb j (suc n)
    go (yes l) = rw (lt-ltb j n l, lt-ltb j (suc n) (omega arith))
    go (no l) = rw (le-ltb j n (omega arith), le-ltb j (suc n) (omega arith))

-- what holds of every number below n, and of n, holds of every number below suc n
pub below_suc : (P : ℕ → Type 0) (n : ℕ) → ((i : ℕ) → i < n → P i) → P n → (i : ℕ) → i < suc n → P i
below_suc P n h here i l = go (ℕ_discrete i n)
  where
    go : Dec (i ≡ n) → P i
    go (yes e) = rw e here
    go (no e) = h i (omega arith)

-- the numbers that pass the test, but for i
abbrev pub but : (ℕ → Bool) → ℕ → ℕ → Bool
but p i j = p j && not (eqb j i)

pub but_same : (p : ℕ → Bool) (i : ℕ) → but p i i ≡ false
but_same p i = rw (eq-eqb i i refl) (and-false (p i))

pub but_other : (p : ℕ → Bool) (i j : ℕ) → j ≢ i → but p i j ≡ p j
but_other p i j h = rw (ne_eqb j i h) (and-true (p j))

-- ---- sums

-- the sum of w i over the numbers i below n that pass the test
unfoldable pub sum : (ℕ → ℕ) → (ℕ → Bool) → ℕ → ℕ
sum w p zero = 0
sum w p (suc n) = sum w p n + cond (p n) (w n) 0

pub sum_cong : (w : ℕ → ℕ) (p q : ℕ → Bool) (n : ℕ) → ((i : ℕ) → i < n → p i ≡ q i) → sum w p n ≡ sum w q n
unfolding sum
sum_cong w p q zero h = refl
sum_cong w p q (suc n) h = rw (h n (le_refl (suc n)), sum_cong w p q n (λ i l. h i (omega arith)))

pub sum_none : (w : ℕ → ℕ) (p : ℕ → Bool) (n : ℕ) → ((i : ℕ) → i < n → p i ≡ false) → sum w p n ≡ 0
unfolding sum
sum_none w p zero h = refl
sum_none w p (suc n) h = rw (h n (le_refl (suc n)), sum_none w p n (λ i l. h i (omega arith)))

-- one that passes, taken out
pub sum_but : (w : ℕ → ℕ) (p : ℕ → Bool) (n i : ℕ) → i < n → p i ≡ true → sum w p n ≡ sum w (but p i) n + w i
unfolding sum
sum_but w p zero i l e = absurd (not-suc-le-zero l)
sum_but w p (suc n) i l e = go (ℕ_discrete i n) (sum_but w p n i)
  where
    go : Dec (i ≡ n) → (i < n → p i ≡ true → sum w p n ≡ sum w (but p i) n + w i) → sum w p (suc n) ≡ sum w (but p i) (suc n) + w i
    go (yes d) ih =
        let same : sum w (but p i) n ≡ sum w p n = sum_cong w (but p i) p n (λ j k. but_other p i j (omega arith)) in
        let pn : p n ≡ true = subst (λ j. p j ≡ true) d e in
        let bn : but p i n ≡ false = subst (λ j. but p i j ≡ false) d (but_same p i) in
        rw (bn, pn) (omega (arith, same, ap w d))
    go (no d) ih = rw (but_other p i n (λ q. d (sym q))) (omega (arith, ih (omega arith) e))

pub sum_one : (w : ℕ → ℕ) (n i : ℕ) → i < n → sum w (λ j. eqb j i) n ≡ w i
sum_one w n i l =
    sum_but w (λ j. eqb j i) n i l (eq-eqb i i refl)
    ∙ omega (arith, sum_none w (but (λ j. eqb j i) i) n (λ j k. and-not_self (eqb j i)))

-- those that pass and those that do not make the whole
pub sum_not : (w : ℕ → ℕ) (p : ℕ → Bool) (n : ℕ) → sum w p n + sum w (λ i. not (p i)) n ≡ sum w (λ i. true) n
unfolding sum
sum_not w p zero = refl
sum_not w p (suc n) = go (p n) (sum_not w p n)
  where
    go : (b : Bool) → sum w p n + sum w (λ i. not (p i)) n ≡ sum w (λ i. true) n
        → (sum w p n + cond b (w n) 0) + (sum w (λ i. not (p i)) n + cond (not b) (w n) 0) ≡ sum w (λ i. true) n + w n
    go true ih = omega arith
    go false ih = omega arith

-- ---- how many

-- a count is a sum of ones
count_sum : (p : ℕ → Bool) (n : ℕ) → count p n ≡ sum (λ i. 1) p n
unfolding count sum
count_sum p zero = refl
count_sum p (suc n) = go (p n) (count_sum p n)
  where
    go : (b : Bool) → count p n ≡ sum (λ i. 1) p n → cond b (suc (count p n)) (count p n) ≡ sum (λ i. 1) p n + cond b 1 0
    go true ih = omega arith
    go false ih = omega arith

pub count_cong : (p q : ℕ → Bool) (n : ℕ) → ((i : ℕ) → i < n → p i ≡ q i) → count p n ≡ count q n
count_cong p q n h = count_sum p n ∙ sum_cong (λ i. 1) p q n h ∙ sym (count_sum q n)

pub count_none : (p : ℕ → Bool) (n : ℕ) → ((i : ℕ) → i < n → p i ≡ false) → count p n ≡ 0
count_none p n h = count_sum p n ∙ sum_none (λ i. 1) p n h

pub count_all : (n : ℕ) → count (λ i. true) n ≡ n
unfolding count
count_all zero = refl
count_all (suc n) = ap suc (count_all n)

-- the numbers below another
pub count_below : (n m : ℕ) → n ≤ m → count (λ i. ltb i n) m ≡ n
unfolding count
count_below n zero h = omega arith
count_below n (suc m) h = go (ltb m n) refl (count_below n m)
  where
    go : (b : Bool) → ltb m n ≡ b → (n ≤ m → count (λ i. ltb i n) m ≡ n) → cond b (suc (count (λ i. ltb i n) m)) (count (λ i. ltb i n) m) ≡ n
    go true e ih =
        let l : m < n = ltb-true m n e in
        omega (arith, count_cong (λ i. ltb i n) (λ i. true) m (λ i k. lt-ltb i n (omega arith)) ∙ count_all m)
    go false e ih = ih (ltb-false m n e)

-- one that passes, taken out
pub count_but : (p : ℕ → Bool) (n i : ℕ) → i < n → p i ≡ true → count p n ≡ suc (count (but p i) n)
count_but p n i l e = omega (arith, count_sum p n, count_sum (but p i) n, sum_but (λ j. 1) p n i l e)

pub count_pos : (p : ℕ → Bool) (n i : ℕ) → i < n → p i ≡ true → 0 < count p n
count_pos p n i l e = omega (arith, count_but p n i l e)

pub count_not : (p : ℕ → Bool) (n : ℕ) → count p n + count (λ i. not (p i)) n ≡ n
count_not p n =
    omega (
      arith,
      count_sum p n,
      count_sum (λ i. not (p i)) n,
      sum_not (λ i. 1) p n,
      count_sum (λ i. true) n,
      count_all n,
    )

pub count_le : (p : ℕ → Bool) (n : ℕ) → count p n ≤ n
count_le p n = omega (arith, count_not p n)

-- a test that passes wherever another does
pub count_mono : (p q : ℕ → Bool) (n : ℕ) → ((i : ℕ) → i < n → p i ≡ true → q i ≡ true) → count p n ≤ count q n
unfolding count
count_mono p q zero h = zero-le
count_mono p q (suc n) h = go (p n) (q n) (h n (le_refl (suc n))) (count_mono p q n (λ i l. h i (omega arith)))
  where
    go : (a b : Bool) → (a ≡ true → b ≡ true) → count p n ≤ count q n → cond a (suc (count p n)) (count p n) ≤ cond b (suc (count q n)) (count q n)
    go true true f ih = omega arith
    go true false f ih = absurd (clash (f refl) refl)
    go false true f ih = omega arith
    go false false f ih = ih

-- ---- the lowest

-- r is the lowest number below n that passes the test, or none passes and r is d
abbrev pub Lowest : (ℕ → Bool) → ℕ → ℕ → ℕ → Type 0
Lowest p n d r =
    ((r < n) × (p r ≡ true) × ((i : ℕ) → i < r → p i ≡ false)) ⊎ ((r ≡ d) × ((i : ℕ) → i < n → p i ≡ false))

pub lowest_is : (p : ℕ → Bool) (n d : ℕ) → Lowest p n d (lowest p n d)
unfolding lowest
lowest_is p zero d = inr (refl, λ i l. absurd (not-suc-le-zero l))
lowest_is p (suc n) d = go (p n) refl (lowest p n (cond (p n) n d)) (lowest_is p n (cond (p n) n d))
  where
    go : (b : Bool) → p n ≡ b → (r : ℕ) → Lowest p n (cond b n d) r → Lowest p (suc n) d r
    go b e r (inl h) = inl (omega arith, h.1, h.2)
    go true e r (inr h) = inl (omega arith, rw h.0 e, λ i l. h.1 i (omega arith))
    go false e r (inr h) = inr (h.0, below_suc (λ i. p i ≡ false) n h.1 e)

-- a passes, and does not pass if it is below b
not_below : (p : ℕ → Bool) (a b : ℕ) → p a ≡ true → (a < b → p a ≡ false) → b ≤ a
not_below p a b e h = le_of_suc-le-suc (lt_of_not-le (λ l. clash e (h l)))

-- only one number is that
pub lowest_same : (p : ℕ → Bool) (n d r : ℕ) → Lowest p n d r → lowest p n d ≡ r
lowest_same p n d r = go (lowest p n d) (lowest_is p n d)
  where
    go : (s : ℕ) → Lowest p n d s → Lowest p n d r → s ≡ r
    go s (inl g) (inl h) = le_antisymm (not_below p r s h.1 (g.2 r)) (not_below p s r g.1 (h.2 s))
    go s (inl g) (inr h) = absurd (clash g.1 (h.1 s g.0))
    go s (inr g) (inl h) = absurd (clash h.1 (g.1 r h.0))
    go s (inr g) (inr h) = g.0 ∙ sym h.0

pub lowest_cong : (p q : ℕ → Bool) (n d : ℕ) → ((i : ℕ) → i < n → p i ≡ q i) → lowest p n d ≡ lowest q n d
unfolding lowest
lowest_cong p q zero d h = refl
lowest_cong p q (suc n) d h = rw (h n (le_refl (suc n))) (lowest_cong p q n (cond (q n) n d) (λ i l. h i (omega arith)))

module _ (p : ℕ → Bool) (n d : ℕ) where
  pub lowest_none : ((i : ℕ) → i < n → p i ≡ false) → lowest p n d ≡ d
  lowest_none h = lowest_same p n d d (inr (refl, h))

  pub lowest_unique : (r : ℕ) → r < n → p r ≡ true → ((i : ℕ) → i < r → p i ≡ false) → lowest p n d ≡ r
  lowest_unique r l e h = lowest_same p n d r (inl (l, e, h))

  -- nothing below it passes
  pub lowest_before : (i : ℕ) → i < n → i < lowest p n d → p i ≡ false
  lowest_before i l k = go (lowest_is p n d)
    where
      go : Lowest p n d (lowest p n d) → p i ≡ false
      go (inl h) = h.2 i k
      go (inr h) = h.1 i l

  pub lowest_bound : d ≤ n → lowest p n d ≤ n
  lowest_bound h = go (lowest_is p n d)
    where
      go : Lowest p n d (lowest p n d) → lowest p n d ≤ n
      go (inl g) = omega arith
      go (inr g) = omega arith

  -- i passes, so that there is a lowest
  module _ (i : ℕ) (l : i < n) (e : p i ≡ true) where
    lowest_some : (lowest p n d < n) × (p (lowest p n d) ≡ true)
    lowest_some = go (lowest_is p n d)
      where
        go : Lowest p n d (lowest p n d) → (lowest p n d < n) × (p (lowest p n d) ≡ true)
        go (inl h) = (h.0, h.1)
        go (inr h) = absurd (clash e (h.1 i l))

    pub lowest_lt : lowest p n d < n
    lowest_lt = lowest_some.0

    pub lowest_true : p (lowest p n d) ≡ true
    lowest_true = lowest_some.1

-- ---- whether there is one

pub any_here : (p : ℕ → Bool) (n i : ℕ) → i < n → p i ≡ true → any p n ≡ true
unfolding any
any_here p zero i l e = absurd (not-suc-le-zero l)
any_here p (suc n) i l e = go (ℕ_discrete i n) (λ k. any_here p n i k e)
  where
    go : Dec (i ≡ n) → (i < n → any p n ≡ true) → (any p n || p n) ≡ true
    go (yes d) ih = rw (← d, e) (or-true (any p i))
    go (no d) ih = rw (ih (omega arith)) refl

pub any_none : (p : ℕ → Bool) (n : ℕ) → ((i : ℕ) → i < n → p i ≡ false) → any p n ≡ false
unfolding any
any_none p zero h = refl
any_none p (suc n) h = rw (any_none p n (λ i l. h i (omega arith)), h n (le_refl (suc n)))

pub any_found : (p : ℕ → Bool) (n : ℕ) → any p n ≡ true → (i : ℕ) × (i < n) × (p i ≡ true)
unfolding any
any_found p zero e = absurd (true≢false (sym e))
any_found p (suc n) e = go (any p n) refl (any_found p n)
  where
    go : (b : Bool) → any p n ≡ b → (any p n ≡ true → (i : ℕ) × (i < n) × (p i ≡ true)) → (i : ℕ) × (i < suc n) × (p i ≡ true)
    go true f ih = let r = ih f in (r.0, le_trans r.1 (le-suc n), r.2)
    go false f ih = (n, le_refl (suc n), rw f at e)

pub any_false : (p : ℕ → Bool) (n i : ℕ) → any p n ≡ false → i < n → p i ≡ false
any_false p n i e l = go (p i) refl
  where
    go : (b : Bool) → p i ≡ b → b ≡ false
    go true f = absurd (clash (any_here p n i l f) e)
    go false f = refl

pub any_cong : (p q : ℕ → Bool) (n : ℕ) → ((i : ℕ) → i < n → p i ≡ q i) → any p n ≡ any q n
unfolding any
any_cong p q zero h = refl
any_cong p q (suc n) h = rw (any_cong p q n (λ i l. h i (omega arith)), h n (le_refl (suc n)))
