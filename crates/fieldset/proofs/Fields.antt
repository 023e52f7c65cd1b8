-- Laws of sets of fields: membership, bounds, equality by members, the lowest field, the size. A set is the sum of its members' powers (`set_of_sum`),
-- so two sets with the same members are equal (`ext_member`) and the other laws compare members.
use Prim.Native.Nat.{ℕ, zero, suc, ◌+◌, ◌*◌, ◌/◌, ◌%◌, ◌^◌, ◌≤◌, ◌<◌}
use mathlib.Core.Path.{◌≡◌, refl, sym, ap, ◌∙◌}
use mathlib.Core.Bool.{Bool, true, false, not, ◌&&◌, ◌||◌, cond, and-false, and-not_self, or-true, or-false}
use mathlib.Core.Logic.{◌⊎◌, inl, inr, ◌≢◌}
use native.Mathlib.Nat.{le_refl, not-suc-le-zero, zero-div, div-eq_of_lt, mod-one, mod-eq_of_lt, lt_of_lt_of_le, lt_of_not-le}
use native.Mathlib.Numerals.{one-add, add-one}
use native.Mathlib.Decide.{ℕ_discrete, dec_lt}
use native.Mathlib.Omega.{arith}
use borrow.Author.Tests.{lt-ltb, le-ltb, eq-eqb, ne_eqb}
use lib.Dec.{eqb, ltb}
use lib.Pow.{pow_pos, pow_mono, mod-pow-add}
use Rattle.fieldset.specs.Numbers.{lowest}
use Rattle.fieldset.specs.Fields.{member, set_of, with, without, union, only, below, lowest_of, filter, size, within, Within}
use Rattle.fieldset.proofs.Numbers.{clash, ltb_suc, but, but_same, but_other, sum, sum_cong, sum_but, count_cong, count_none, count_below, count_but, count_le, count_mono, Lowest, lowest_is, lowest_before, lowest_bound, lowest_lt, lowest_true, any_here, any_none}

-- ---- sets by their members

-- the digits below k + 1 are those below k, and digit k
pub mod_suc : (m k : ℕ) → m % 2 ^ suc k ≡ m % 2 ^ k + cond (member m k) (2 ^ k) 0
unfolding member
mod_suc m k = ap (λ (x : ℕ). m % 2 ^ x) (sym (one-add k)) ∙ mod-pow-add m 1 k ∙ go (m / 2 ^ k % 2) (omega arith)
  where
    go : (d : ℕ) → d < 2 → d * 2 ^ k + m % 2 ^ k ≡ m % 2 ^ k + cond (eqb d 1) (2 ^ k) 0
    go zero h = omega arith
    go (suc zero) h = omega arith
    go (suc (suc d)) h = absurd (omega arith)

-- a set is the set of its members
pub set_of_member : (m k : ℕ) → set_of (member m) k ≡ m % 2 ^ k
unfolding set_of
set_of_member m zero = sym (mod-one m)
set_of_member m (suc k) = rw (set_of_member m k) (sym (mod_suc m k))

pub set_of_lt : (p : ℕ → Bool) (n : ℕ) → set_of p n < 2 ^ n
unfolding set_of
set_of_lt p zero = omega arith
set_of_lt p (suc n) = go (p n) (set_of_lt p n)
  where
    go : (b : Bool) → set_of p n < 2 ^ n → set_of p n + cond b (2 ^ n) 0 < 2 ^ suc n
    go true ih = omega arith
    go false ih = omega arith

-- a set is a sum of powers
pub set_of_sum : (p : ℕ → Bool) (n : ℕ) → set_of p n ≡ sum (λ i. 2 ^ i) p n
unfolding set_of sum
set_of_sum p zero = refl
set_of_sum p (suc n) = rw (set_of_sum p n)

pub set_of_cong : (p q : ℕ → Bool) (n : ℕ) → ((i : ℕ) → i < n → p i ≡ q i) → set_of p n ≡ set_of q n
set_of_cong p q n h = set_of_sum p n ∙ sum_cong (λ i. 2 ^ i) p q n h ∙ sym (set_of_sum q n)

-- equal sets have equal members
set_of_injective : (p q : ℕ → Bool) (n i : ℕ) → set_of p n ≡ set_of q n → i < n → p i ≡ q i
unfolding set_of
set_of_injective p q zero i e l = absurd (not-suc-le-zero l)
set_of_injective p q (suc n) i e l =
    let (here, rest) = step (p n) (q n) (set_of p n) (set_of q n) (set_of_lt p n) (set_of_lt q n) e in
    go (ℕ_discrete i n) here (set_of_injective p q n i rest)
  where
    step : (a b : Bool) (x y : ℕ) → x < 2 ^ n → y < 2 ^ n → x + cond a (2 ^ n) 0 ≡ y + cond b (2 ^ n) 0 → (a ≡ b) × (x ≡ y)
    step true true x y hx hy e = (refl, omega arith)
    step true false x y hx hy e = absurd (omega arith)
    step false true x y hx hy e = absurd (omega arith)
    step false false x y hx hy e = (refl, omega arith)

    go : Dec (i ≡ n) → p n ≡ q n → (i < n → p i ≡ q i) → p i ≡ q i
    go (yes d) here ih = rw d here
    go (no d) here ih = ih (omega arith)

pub set_of_members : (m k : ℕ) → m < 2 ^ k → set_of (member m) k ≡ m
set_of_members m k h = set_of_member m k ∙ mod-eq_of_lt h

-- two sets with the same members are one
pub ext_member : (k a b : ℕ) → a < 2 ^ k → b < 2 ^ k → ((i : ℕ) → i < k → member a i ≡ member b i) → a ≡ b
ext_member k a b ha hb h = sym (set_of_members a k ha) ∙ set_of_cong (member a) (member b) k h ∙ set_of_members b k hb

-- no member is as high as the bound
pub member_high : (k m i : ℕ) → m < 2 ^ k → k ≤ i → member m i ≡ false
unfolding member
member_high k m i h l = rw (div-eq_of_lt (lt_of_lt_of_le h (pow_mono l)))

pub member_setOf_lt : (p : ℕ → Bool) (n i : ℕ) → i < n → member (set_of p n) i ≡ p i
member_setOf_lt p n i l = set_of_injective (member (set_of p n)) p n i (set_of_members (set_of p n) n (set_of_lt p n)) l

pub member_setOf : (p : ℕ → Bool) (n i : ℕ) → member (set_of p n) i ≡ (ltb i n && p i)
member_setOf p n i = go (dec_lt i n)
  where
    go : Dec (i < n) → member (set_of p n) i ≡ (ltb i n && p i)
    go (yes l) = rw (lt-ltb i n l) (member_setOf_lt p n i l)
    go (no l) = rw (le-ltb i n (omega arith)) (member_high n (set_of p n) i (set_of_lt p n) (omega arith))

-- ---- the empty set

pub member_empty : (i : ℕ) → member 0 i ≡ false
unfolding member
member_empty i = rw (zero-div (2 ^ i))

-- a set with a member is not 0
pub member_some : (m i : ℕ) → member m i ≡ true → 0 < m
member_some zero i e = absurd (clash e (member_empty i))
member_some (suc m) i e = omega arith

-- a set with no member is empty
pub empty_of_none : (k m : ℕ) → m < 2 ^ k → ((i : ℕ) → i < k → member m i ≡ false) → m ≡ 0
empty_of_none k m hm h = ext_member k m 0 hm (pow_pos k) (λ i l. h i l ∙ sym (member_empty i))

-- ---- a set with a field, without a field, of one field, of all below n; two sets

pub with_lt : (m i : ℕ) → with m i < 2 ^ 64
unfolding with
with_lt m i = set_of_lt (λ j. member m j || eqb j i) 64

pub without_lt : (m i : ℕ) → without m i < 2 ^ 64
unfolding without
without_lt m i = set_of_lt (but (member m) i) 64

pub union_lt : (a b : ℕ) → union a b < 2 ^ 64
unfolding union
union_lt a b = set_of_lt (λ j. member a j || member b j) 64

pub only_lt : (i : ℕ) → only i < 2 ^ 64
unfolding only
only_lt i = set_of_lt (λ j. eqb j i) 64

pub below_lt : (n : ℕ) → below n < 2 ^ 64
unfolding below
below_lt n = set_of_lt (λ j. ltb j n) 64

pub member_with : (m i j : ℕ) → j < 64 → member (with m i) j ≡ (member m j || eqb j i)
unfolding with
member_with m i j l = member_setOf_lt (λ j. member m j || eqb j i) 64 j l

pub member_without : (m i j : ℕ) → j < 64 → member (without m i) j ≡ (member m j && not (eqb j i))
unfolding without
member_without m i j l = member_setOf_lt (but (member m) i) 64 j l

pub member_union : (a b j : ℕ) → j < 64 → member (union a b) j ≡ (member a j || member b j)
unfolding union
member_union a b j l = member_setOf_lt (λ j. member a j || member b j) 64 j l

pub member_only : (i j : ℕ) → j < 64 → member (only i) j ≡ eqb j i
unfolding only
member_only i j l = member_setOf_lt (λ j. eqb j i) 64 j l

pub member_below : (n j : ℕ) → j < 64 → member (below n) j ≡ ltb j n
unfolding below
member_below n j l = member_setOf_lt (λ j. ltb j n) 64 j l

pub member_with_same : (m i : ℕ) → i < 64 → member (with m i) i ≡ true
member_with_same m i l = member_with m i i l ∙ rw (eq-eqb i i refl) (or-true (member m i))

pub member_with_other : (m i j : ℕ) → j < 64 → j ≢ i → member (with m i) j ≡ member m j
member_with_other m i j l h = member_with m i j l ∙ rw (ne_eqb j i h) (or-false (member m j))

pub member_without_same : (m i : ℕ) → member (without m i) i ≡ false
unfolding without
member_without_same m i = member_setOf (but (member m) i) 64 i ∙ rw (but_same (member m) i) (and-false (ltb i 64))

pub member_without_other : (m i j : ℕ) → j < 64 → j ≢ i → member (without m i) j ≡ member m j
member_without_other m i j l h = member_without m i j l ∙ but_other (member m) i j h

-- the fields below n that pass a test, and n if it does
pub set_of_step : (p : ℕ → Bool) (n : ℕ) {m m' : ℕ} → n < 64 → m ≡ set_of p n
    → ((p n ≡ true) × (m' ≡ with m n)) ⊎ ((p n ≡ false) × (m' ≡ m)) → m' ≡ set_of p (n + 1)
unfolding set_of
set_of_step p n l e (inl (h, q)) = q ∙ rw (e, add-one n)
    (ext_member 64 (with (set_of p n) n) (set_of p (suc n)) (with_lt (set_of p n) n) (lt_of_lt_of_le (set_of_lt p (suc n)) (pow_mono l))
    (λ j k. go j k (ℕ_discrete j n)))
  where
    go : (j : ℕ) → j < 64 → Dec (j ≡ n) → member (with (set_of p n) n) j ≡ member (set_of p (suc n)) j
    go j k (yes d) = rw d (member_with_same (set_of p n) n l ∙ sym (member_setOf_lt p (suc n) n (le_refl (suc n)) ∙ h))
    go j k (no d) =
        member_with_other (set_of p n) n j k d ∙ member_setOf p n j ∙ rw (ltb_suc j n d) (sym (member_setOf p (suc n) j))
set_of_step p n l e (inr (h, q)) = q ∙ e ∙ rw (add-one n, h) (omega arith)

-- a field of the set but for i
pub without_cases : (m i j : ℕ) → j < 64 → member (without m i) j ≡ true → (member m j ≡ true) × (j ≢ i)
without_cases m i j l e = go (ℕ_discrete j i)
  where
    go : Dec (j ≡ i) → (member m j ≡ true) × (j ≢ i)
    go (yes d) = absurd (clash (rw d at e) (member_without_same m i))
    go (no d) = (sym (member_without_other m i j l d) ∙ e, d)

pub without_of : (m i j : ℕ) → j < 64 → member m j ≡ true → j ≢ i → member (without m i) j ≡ true
without_of m i j l e d = member_without_other m i j l d ∙ e

pub with_of : (m i j : ℕ) → j < 64 → member m j ≡ true → member (with m i) j ≡ true
with_of m i j l e = member_with m i j l ∙ rw e

-- the fields of a set that pass a test
pub filter_lt : (p : ℕ → Bool) (m : ℕ) → filter p m < 2 ^ 64
unfolding filter
filter_lt p m = set_of_lt (λ j. member m j && p j) 64

pub member_filter : (p : ℕ → Bool) (m j : ℕ) → j < 64 → member (filter p m) j ≡ (member m j && p j)
unfolding filter
member_filter p m j l = member_setOf_lt (λ j. member m j && p j) 64 j l

-- a field that does not pass may go
pub without_failing : (p : ℕ → Bool) (m u : ℕ) → p u ≡ false → (j : ℕ) → j < 64 → (member (without m u) j && p j) ≡ (member m j && p j)
without_failing p m u e j l = go (ℕ_discrete j u)
  where
    go : Dec (j ≡ u) → (member (without m u) j && p j) ≡ (member m j && p j)
    go (yes d) = rw (d, e, and-false (member m u)) (and-false (member (without m u) u))
    go (no d) = rw (member_without_other m u j l d)

-- ---- the lowest field, and the size

module _ (m : ℕ) where
  pub lowest_of_le : lowest_of m ≤ 64
  unfolding lowest_of
  lowest_of_le = lowest_bound (member m) 64 64 (le_refl 64)

  -- nothing below it is a member
  pub lowest_of_before : (i : ℕ) → i < lowest_of m → member m i ≡ false
  unfolding lowest_of
  lowest_of_before i l = lowest_before (member m) 64 64 i (lt_of_lt_of_le l lowest_of_le) l

pub size_empty : size 0 ≡ 0
unfolding size
size_empty = count_none (member 0) 64 (λ i l. member_empty i)

pub size_below : (n : ℕ) → n ≤ 64 → size (below n) ≡ n
unfolding size
size_below n h = count_cong (member (below n)) (λ i. ltb i n) 64 (member_below n) ∙ count_below n 64 h

-- a subset is no larger
pub size_mono : (a b : ℕ) → Within a b → size a ≤ size b
unfolding size
size_mono a b h = count_mono (member a) (member b) 64 h

pub size_le : (m : ℕ) → size m ≤ 64
unfolding size
size_le m = count_le (member m) 64

-- one field more
pub size_with : (m i : ℕ) → i < 64 → member m i ≡ false → size (with m i) ≡ suc (size m)
unfolding size
size_with m i l e =
    count_but (member (with m i)) 64 i l (member_with_same m i l)
    ∙ ap suc (count_cong (but (member (with m i)) i) (member m) 64 (λ j h. go j h (ℕ_discrete j i)))
  where
    go : (j : ℕ) → j < 64 → Dec (j ≡ i) → but (member (with m i)) i j ≡ member m j
    go j h (yes d) = rw d (but_same (member (with m i)) i ∙ sym e)
    go j h (no d) = but_other (member (with m i)) i j d ∙ member_with_other m i j h d

-- ---- a set of fields below 64

module _ (m : ℕ) (hm : m < 2 ^ 64) where
  pub member_lt : (i : ℕ) → member m i ≡ true → i < 64
  member_lt i e = lt_of_not-le (λ l. clash e (member_high 64 m i hm l))

  -- a field taken away takes its power away
  pub without_add : (i : ℕ) → member m i ≡ true → without m i + 2 ^ i ≡ m
  unfolding without
  without_add i e =
      omega (
        arith,
        set_of_sum (but (member m) i) 64,
        sum_but (λ j. 2 ^ j) (member m) 64 i (member_lt i e) e,
        set_of_sum (member m) 64,
        set_of_members m 64 hm,
      )

  pub without_falls : (i : ℕ) → member m i ≡ true → without m i < m
  without_falls i e = omega (arith, without_add i e, pow_pos i)

  pub size_without : (i : ℕ) → member m i ≡ true → size (without m i) + 1 ≡ size m
  unfolding size
  size_without i e =
      omega (
        arith,
        count_cong (member (without m i)) (but (member m) i) 64 (member_without m i),
        count_but (member m) 64 i (member_lt i e) e,
      )

  -- it is not empty
  module _ (pos : 0 < m) where
    pub some_member : (i : ℕ) × (i < 64) × (member m i ≡ true)
    some_member = go (lowest (member m) 64 64) (lowest_is (member m) 64 64)
      where
        go : (i : ℕ) → Lowest (member m) 64 64 i → (i : ℕ) × (i < 64) × (member m i ≡ true)
        go i (inl h) = (i, h.0, h.1)
        go i (inr h) = absurd (omega (arith, empty_of_none 64 m hm h.1))

    pub lowest_of_lt : lowest_of m < 64
    unfolding lowest_of
    lowest_of_lt = let (i, l, e) = some_member in lowest_lt (member m) 64 64 i l e

    pub lowest_of_member : member m (lowest_of m) ≡ true
    unfolding lowest_of
    lowest_of_member = let (i, l, e) = some_member in lowest_true (member m) 64 64 i l e

    -- a step that takes the lowest field away falls
    pub lowest_of_falls : without m (lowest_of m) < m
    lowest_of_falls = without_falls (lowest_of m) lowest_of_member

-- ---- two sets

pub within_true : (a b : ℕ) → Within a b → within a b ≡ true
unfolding within
within_true a b h = ap not (any_none (λ j. member a j && not (member b j)) 64 (λ i l. go i l (member a i) refl))
  where
    go : (i : ℕ) → i < 64 → (x : Bool) → member a i ≡ x → (x && not (member b i)) ≡ false
    go i l true e = rw (h i l e) refl
    go i l false e = refl

pub within_member : (a b i : ℕ) → within a b ≡ true → i < 64 → member a i ≡ true → member b i ≡ true
unfolding within
within_member a b i w l e = go (member b i) refl
  where
    go : (y : Bool) → member b i ≡ y → y ≡ true
    go true f = refl
    go false f =
        absurd (clash w (ap not (any_here (λ j. member a j && not (member b j)) 64 i l (rw (e, f) refl))))

-- one field without itself
pub without_only : (f : ℕ) → without (only f) f ≡ 0
without_only f =
    empty_of_none 64 (without (only f) f) (without_lt (only f) f)
    (λ j l. member_without (only f) f j l ∙ rw (member_only f j l) (and-not_self (eqb j f)))

-- ---- two sets

pub union_none : (a : ℕ) → a < 2 ^ 64 → union a 0 ≡ a
union_none a small = ext_member 64 (union a 0) a (union_lt a 0) small (λ i l. rw (member_union a 0 i l, member_empty i) (or-false (member a i)))

module _ (a b g : ℕ) where
  pub union_cases : member (union a b) g ≡ true → (member a g ≡ true) ⊎ (member b g ≡ true)
  union_cases e = go (member a g) refl
    where
      go : (x : Bool) → member a g ≡ x → (member a g ≡ true) ⊎ (member b g ≡ true)
      go true h = inl h
      go false h = inr (ap (λ (x : Bool). x || member b g) (sym h) ∙ sym (member_union a b g (member_lt (union a b) (union_lt a b) g e)) ∙ e)

  pub union_left : g < 64 → member a g ≡ true → member (union a b) g ≡ true
  union_left l e = member_union a b g l ∙ rw e

  pub union_right : g < 64 → member b g ≡ true → member (union a b) g ≡ true
  union_right l e = member_union a b g l ∙ rw e (or-true (member a g))
