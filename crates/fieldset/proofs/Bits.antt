-- What the machine's operations on numbers of 64 bits do to sets of fields. Each law compares members: two sets with the same ones are equal
-- (`ext_member`), and the members of `a | b`, `a & b` and `!a` are by digits (`member_or`, `member_and`, `member_not`).
use Prim.Native.Nat.{ℕ, zero, suc, ◌+◌, ◌-◌, ◌*◌, ◌/◌, ◌%◌, ◌^◌, ◌≤◌, ◌<◌, min, max}
use mathlib.Core.Path.{◌≡◌, refl, sym, ap, ◌∙◌}
use mathlib.Core.Bool.{Bool, true, false, not, ◌&&◌, ◌||◌, cond, and-true, not-not}
use mathlib.Core.Logic.{inl, inr}
use native.Mathlib.Nat.{le_refl, pow-suc, mod-one, mod-lt, add-zero, le_of_suc-le-suc, not-suc-le-zero, div-one, mod-eq_of_lt, one-mul, lt_of_lt_of_le}
use native.Mathlib.Numerals.{one-add}
use native.Mathlib.Omega.{arith}
use borrow.Author.Tests.{eq-eqb, ne_eqb}
use lib.Dec.{eqb, ltb}
use lib.Pow.{pow_pos, pow_mono, ones_lt, ones_sub-lt, shl_exact, shr-shr}
use lib.Bits.{bit_and, bit_or, and_mask, and_step, or_step, and_shr, or_shr, and_self, and_le_l, and_lt, or_lt}
use lib.Count.{ones, ones_in, ones_cat, under, count_trailing_zeros}
use Rattle.fieldset.specs.Numbers.{count, any}
use Rattle.fieldset.specs.Fields.{member, set_of, with, without, union, only, below, lowest_of, minus, size, meets, within}
use Rattle.fieldset.proofs.Numbers.{clash, sum_one, sum_not, Lowest, lowest_same, any_found, any_false}
use Rattle.fieldset.proofs.Fields.{mod_suc, set_of_sum, set_of_members, ext_member, member_setOf, member_setOf_lt, member_with, member_without, member_union, member_only, member_below, with_lt, without_lt, union_lt, only_lt, below_lt, filter_lt, member_filter, without_add, lowest_of_member, member_empty, empty_of_none}

-- ---- the members of a | b and of a & b

-- by cases on two digits
digits_ind : (P : ℕ → ℕ → Type 0) → P 0 0 → P 0 1 → P 1 0 → P 1 1 → (a b : ℕ) → P (a % 2) (b % 2)
digits_ind P p00 p01 p10 p11 a b = go (a % 2) (b % 2) (omega arith) (omega arith)
  where
    go : (x y : ℕ) → x < 2 → y < 2 → P x y
    go zero zero hx hy = p00
    go zero (suc zero) hx hy = p01
    go (suc zero) zero hx hy = p10
    go (suc zero) (suc zero) hx hy = p11
    go (suc (suc x)) y hx hy = absurd (omega arith)
    go zero (suc (suc y)) hx hy = absurd (omega arith)
    go (suc zero) (suc (suc y)) hx hy = absurd (omega arith)

pub member_or : (a b i : ℕ) → member (bit_or a b) i ≡ (member a i || member b i)
unfolding member
member_or a b i =
    let digit : bit_or (a / 2 ^ i) (b / 2 ^ i) % 2 ≡ max (a / 2 ^ i % 2) (b / 2 ^ i % 2) = omega (arith, or_step (a / 2 ^ i) (b / 2 ^ i)) in
    rw (or_shr a b i, digit) (digits_ind (λ x y. eqb (max x y) 1 ≡ (eqb x 1 || eqb y 1)) refl refl refl refl (a / 2 ^ i) (b / 2 ^ i))

pub member_and : (a b i : ℕ) → member (bit_and a b) i ≡ (member a i && member b i)
unfolding member
member_and a b i =
    let digit : bit_and (a / 2 ^ i) (b / 2 ^ i) % 2 ≡ min (a / 2 ^ i % 2) (b / 2 ^ i % 2) = omega (arith, and_step (a / 2 ^ i) (b / 2 ^ i)) in
    rw (and_shr a b i, digit) (digits_ind (λ x y. eqb (min x y) 1 ≡ (eqb x 1 && eqb y 1)) refl refl refl refl (a / 2 ^ i) (b / 2 ^ i))

pub or_union : (a b : ℕ) → a < 2 ^ 64 → b < 2 ^ 64 → bit_or a b ≡ union a b
or_union a b ha hb = ext_member 64 (bit_or a b) (union a b) (or_lt 64 a b ha hb) (union_lt a b) (λ i l. member_or a b i ∙ sym (member_union a b i l))

-- ---- `(m >> i) & 1 == 1`

pub shr_member : (m i : ℕ) → eqb (bit_and (m / 2 ^ i) 1) 1 ≡ member m i
unfolding member
shr_member m i = rw (and_mask (m / 2 ^ i) 1)

-- ---- `1 << i`

abbrev pub shl_one : ℕ → ℕ
shl_one i = 1 * 2 ^ i % 2 ^ 64

shl_pow : (i : ℕ) → i < 64 → shl_one i ≡ 2 ^ i
shl_pow i h = shl_exact 1 i 64 (omega arith) (omega arith) ∙ one-mul (2 ^ i)

pub shl_only : (i : ℕ) → i < 64 → shl_one i ≡ only i
unfolding only
shl_only i h = shl_pow i h ∙ sym (set_of_sum (λ j. eqb j i) 64 ∙ sum_one (λ j. 2 ^ j) 64 i h)

pub or_with : (m i : ℕ) → m < 2 ^ 64 → i < 64 → bit_or m (shl_one i) ≡ with m i
or_with m i hm hi =
    rw (shl_only i hi)
    (ext_member 64 (bit_or m (only i)) (with m i) (or_lt 64 m (only i) hm (only_lt i)) (with_lt m i)
    (λ j l. member_or m (only i) j ∙ rw (member_only i j l) (sym (member_with m i j l))))

-- ---- all digits set, and `!a`

set_of_all : (n : ℕ) → set_of (λ i. true) n ≡ 2 ^ n - 1
unfolding set_of
set_of_all zero = refl
set_of_all (suc n) = omega (arith, set_of_all n, pow_pos n)

ones_below : (n : ℕ) → n ≤ 64 → 2 ^ n - 1 ≡ below n
ones_below n h =
    ext_member 64 (2 ^ n - 1) (below n) (lt_of_lt_of_le (ones_lt n) (pow_mono h)) (below_lt n)
    (λ j l. rw (← set_of_all n) (member_setOf (λ i. true) n j ∙ and-true (ltb j n) ∙ sym (member_below n j l)))

pub shl_below : (n : ℕ) → n < 64 → shl_one n - 1 ≡ below n
shl_below n h = rw (shl_pow n h) (ones_below n (omega arith))

pub shl_pos : (n : ℕ) → n < 64 → 1 ≤ shl_one n
shl_pos n h = omega (arith, shl_pow n h, pow_pos n)

-- `u64::MAX`
pub max_below : (n : ℕ) → n ≡ 64 → 2 ^ 64 - 1 ≡ below n
max_below n e = rw e (ones_below 64 (le_refl 64))

-- those that a has not
set_of_not : (k a : ℕ) → a < 2 ^ k → 2 ^ k - 1 - a ≡ set_of (λ i. not (member a i)) k
set_of_not k a h =
    omega (
      arith,
      set_of_members a k h,
      set_of_all k,
      set_of_sum (member a) k,
      set_of_sum (λ i. not (member a i)) k,
      set_of_sum (λ i. true) k,
      sum_not (λ i. 2 ^ i) (member a) k,
    )

pub member_not : (k a i : ℕ) → a < 2 ^ k → i < k → member (2 ^ k - 1 - a) i ≡ not (member a i)
member_not k a i h l = rw (set_of_not k a h) (member_setOf_lt (λ i. not (member a i)) k i l)

pub and_without : (m i : ℕ) → m < 2 ^ 64 → i < 64 → bit_and m (2 ^ 64 - 1 - shl_one i) ≡ without m i
and_without m i hm hi =
    rw (shl_only i hi)
    (ext_member 64 (bit_and m (2 ^ 64 - 1 - only i)) (without m i) (and_lt 64 m (2 ^ 64 - 1 - only i) hm (ones_sub-lt 64 (only i))) (without_lt m i)
    (λ j l. member_and m (2 ^ 64 - 1 - only i) j ∙ rw (member_not 64 (only i) j (only_lt i) l, member_only i j l) (sym (member_without m i j l))))

pub and_minus : (a b : ℕ) → a < 2 ^ 64 → b < 2 ^ 64 → bit_and a (2 ^ 64 - 1 - b) ≡ minus a b
and_minus a b ha hb =
    ext_member 64 (bit_and a (2 ^ 64 - 1 - b)) (minus a b) (and_lt 64 a (2 ^ 64 - 1 - b) ha (ones_sub-lt 64 b)) (filter_lt _ a)
    (λ j l. member_and a (2 ^ 64 - 1 - b) j ∙ rw (member_not 64 b j hb l) (sym (member_filter (λ j. not (member b j)) a j l)))

-- ---- the zeros below the lowest digit set

member_first : (m : ℕ) → member m 0 ≡ eqb (m % 2) 1
unfolding member
member_first m = rw (div-one m)

member_next : (m i : ℕ) → member m (suc i) ≡ member (m / 2) i
unfolding member
member_next m i = rw (← one-add i, ← shr-shr m 1 i)

trailing_is : (k m : ℕ) → Lowest (member m) k k (count_trailing_zeros k m)
unfolding count_trailing_zeros
trailing_is zero m = inr (refl, λ i l. absurd (not-suc-le-zero l))
trailing_is (suc k) m = go (m % 2) refl (count_trailing_zeros k (m / 2)) (trailing_is k (m / 2))
  where
    none : (n : ℕ) → m % 2 ≡ 0 → ((i : ℕ) → i < n → member (m / 2) i ≡ false) → (i : ℕ) → i < suc n → member m i ≡ false
    none n e h zero l = member_first m ∙ rw e
    none n e h (suc i) l = member_next m i ∙ h i (le_of_suc-le-suc l)

    go : (d : ℕ) → m % 2 ≡ d → (t : ℕ) → Lowest (member (m / 2)) k k t → Lowest (member m) (suc k) (suc k) (under d t)
    go zero e t (inl h) = inl (omega arith, member_next m t ∙ h.1, none t e h.2)
    go zero e t (inr h) = inr (ap suc h.0, none k e h.1)
    go (suc d) e t h = inl (omega arith, member_first m ∙ eq-eqb (m % 2) 1 (omega arith), λ i l. absurd (not-suc-le-zero l))

pub trailing_lowest : (m : ℕ) → count_trailing_zeros 64 m ≡ lowest_of m
unfolding lowest_of
trailing_lowest m = sym (lowest_same (member m) 64 64 (count_trailing_zeros 64 m) (trailing_is 64 m))

-- `m & (m - 1)` is m less its lowest power
and_pred : (k m : ℕ) → 0 < m → m < 2 ^ k → bit_and m (m - 1) + 2 ^ count_trailing_zeros k m ≡ m
unfolding count_trailing_zeros
and_pred zero m pos h = absurd (omega arith)
and_pred (suc k) m pos h = go (m % 2) refl (and_pred k (m / 2))
  where
    go : (d : ℕ) → m % 2 ≡ d → (0 < m / 2 → m / 2 < 2 ^ k → bit_and (m / 2) (m / 2 - 1) + 2 ^ count_trailing_zeros k (m / 2) ≡ m / 2)
        → bit_and m (m - 1) + 2 ^ under d (count_trailing_zeros k (m / 2)) ≡ m
    go zero e ih =
        let half : (m - 1) / 2 ≡ m / 2 - 1 = omega arith in
        omega (arith, rw half at (and_step m (m - 1)), ih (omega arith) (omega arith), pow-suc 2 (count_trailing_zeros k (m / 2)))
    go (suc d) e ih =
        let half : (m - 1) / 2 ≡ m / 2 = omega arith in
        omega (arith, rw half at (and_step m (m - 1)), and_self (m / 2))

pub and_without_lowest : (m : ℕ) → 0 < m → m < 2 ^ 64 → bit_and m (m - 1) ≡ without m (lowest_of m)
and_without_lowest m pos h =
    omega (
      arith,
      rw (trailing_lowest m) at (and_pred 64 m pos h),
      without_add m h (lowest_of m) (lowest_of_member m h pos),
    )

-- ---- the digits set

ones_count : (m k : ℕ) → ones (m % 2 ^ k) ≡ count (member m) k
unfolding count ones ones_in
ones_count m zero = rw (mod-one m)
ones_count m (suc k) = ap ones (mod_suc m k) ∙ go (member m k) (m % 2 ^ k) (mod-lt m (pow_pos k)) (ones_count m k)
  where
    go : (b : Bool) (r : ℕ) → r < 2 ^ k → ones r ≡ count (member m) k → ones (r + cond b (2 ^ k) 0) ≡ cond b (suc (count (member m) k)) (count (member m) k)
    go true r h ih =
        let e : r + 2 ^ k ≡ 1 * 2 ^ k + r = omega arith in
        ap ones e ∙ ones_cat k 1 r h ∙ omega arith
    go false r h ih = rw (add-zero r) ih

pub ones_size : (m : ℕ) → m < 2 ^ 64 → ones m ≡ size m
unfolding size
ones_size m h = ap ones (sym (mod-eq_of_lt h)) ∙ ones_count m 64

-- the number x is the set of the members that pass a test of which the test `any` says whether there is one
is_empty : (x : ℕ) (q : ℕ → Bool) → x < 2 ^ 64 → ((i : ℕ) → i < 64 → member x i ≡ q i) → eqb x 0 ≡ not (any q 64)
is_empty x q small same = go (any q 64) refl
  where
    go : (b : Bool) → any q 64 ≡ b → eqb x 0 ≡ not b
    go true e =
        let r = any_found q 64 e in
        ne_eqb x 0 (λ z. clash (same r.0 r.1 ∙ r.2) (rw z (member_empty r.0)))
    go false e = eq-eqb x 0 (empty_of_none 64 x small (λ i l. same i l ∙ any_false q 64 i e l))

-- the fields of a and b, none or some
pub and_meets : (a b : ℕ) → a < 2 ^ 64 → b < 2 ^ 64 → not (eqb (bit_and a b) 0) ≡ meets a b
unfolding meets
and_meets a b ha hb =
    ap not (is_empty (bit_and a b) (λ j. member a j && member b j) (omega (arith, and_le_l a b)) (λ i l. member_and a b i))
    ∙ not-not (any (λ j. member a j && member b j) 64)

-- the fields of a that are not in b, none
pub and_within : (a b : ℕ) → a < 2 ^ 64 → b < 2 ^ 64 → eqb (bit_and a (2 ^ 64 - 1 - b)) 0 ≡ within a b
unfolding within
and_within a b ha hb =
    is_empty (bit_and a (2 ^ 64 - 1 - b)) (λ j. member a j && not (member b j)) (omega (arith, and_le_l a (2 ^ 64 - 1 - b)))
    (λ i l. member_and a (2 ^ 64 - 1 - b) i ∙ ap (λ (x : Bool). member a i && x) (member_not 64 b i hb l))
