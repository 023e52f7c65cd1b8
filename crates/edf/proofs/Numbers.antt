-- Plain numbers: of a field, trailing spaces dropped, all characters have to be digits (`then_plain`, `plain_then`); and `Digits`, what the loop over these
-- keeps: those before a position are digits, and those from there on go on from the number so far.
use mathlib.Core.Path.{◌≡◌, refl, sym, ap, ap₂, ◌∙◌}
use mathlib.Core.Bool.{Bool, true, false, cond}
use mathlib.Core.List.{List, [], ◌∷◌, ◌++◌, append_assoc, append-nil}
use Prim.Native.Nat.{ℕ, zero, suc, ◌+◌, ◌-◌, ◌*◌, ◌^◌, ◌≤◌, ◌<◌}
use native.Mathlib.Numerals.{add-one}
use native.Mathlib.Omega.{arith}
use lib.Dec.{leb, ltb}
use lib.ListN.{length, get_or, take, drop, replicate, length-append, drop_of_length-le}
use lib.Pow.{pow-add, pow_mono}
use lib.Seq.{drop-cons, take-suc, take_all, length-take-le, drop-append_seam}
use borrow.Author.Tests.{leb-true, lt-ltb, ltb-true, ne_eqb}
use Rattle.fieldset.proofs.Tests.{and_left, and_right, and_both}
use Rattle.edf.specs.Texts.{are_spaces, dropped, is_decimal, digits_of, number_from, is_plain, number_of}
use Rattle.edf.specs.Answers.{number_read}
use Rattle.edf.proofs.Texts.{spaces_are, spaces_behind, dropped_behind, dropped_then}

-- a digit is a character from 0 to 9
pub digit_range : (c : ℕ) → is_decimal c ≡ true → (48 ≤ c) × (c ≤ 57)
unfolding is_decimal
digit_range c e = (leb-true 48 c (and_left (leb 48 c) (leb c 57) e), leb-true c 57 (and_right (leb 48 c) (leb c 57) e))

-- ---- digits, then only spaces

pub digits_first : (s : List ℕ) → s ≡ digits_of s ++ drop (length (digits_of s)) s
unfolding digits_of
digits_first [] = refl
digits_first (c ∷ s) = go (is_decimal c) (digits_first s) where
  go : (b : Bool) → s ≡ digits_of s ++ drop (length (digits_of s)) s
      → c ∷ s ≡ cond b (c ∷ digits_of s) [] ++ drop (length (cond b (c ∷ digits_of s) [])) (c ∷ s)
  go true h = ap (λ (x : List ℕ). c ∷ x) h
  go false h = refl

pub no_digits : (k : ℕ) → digits_of (replicate k 32) ≡ []
unfolding digits_of is_decimal
no_digits zero = refl
no_digits (suc k) = refl

digits_digits : (s : List ℕ) → digits_of (digits_of s) ≡ digits_of s
unfolding digits_of
digits_digits [] = refl
digits_digits (c ∷ s) = go (is_decimal c) refl (digits_digits s) where
  go : (b : Bool) → is_decimal c ≡ b → digits_of (digits_of s) ≡ digits_of s → digits_of (cond b (c ∷ digits_of s) []) ≡ cond b (c ∷ digits_of s) []
  go true e h = rw e (ap (λ (x : List ℕ). c ∷ x) h)
  go false e h = refl

-- all characters are digits
all_digits : (c : ℕ) (d : List ℕ) → digits_of (c ∷ d) ≡ c ∷ d → (is_decimal c ≡ true) × (digits_of d ≡ d)
unfolding digits_of
all_digits c d e = go (is_decimal c) e where
  go : (b : Bool) → cond b (c ∷ digits_of d) [] ≡ c ∷ d → (b ≡ true) × (digits_of d ≡ d)
  go true h = (refl, cc)
  go false h = absurd (cc)

digits_whole : (d : List ℕ) → digits_of d ≡ d → dropped d ≡ d
unfolding dropped are_spaces
digits_whole [] e = refl
digits_whole (c ∷ d) e =
    let h = all_digits c d e in
    let r = digit_range c h.0 in
    rw (ne_eqb c 32 (λ x. omega arith)) (ap (λ (x : List ℕ). c ∷ x) (digits_whole d h.1))

digits_padded : (d : List ℕ) (k : ℕ) → digits_of d ≡ d → digits_of (d ++ replicate k 32) ≡ d
unfolding digits_of
digits_padded [] k e = no_digits k
digits_padded (c ∷ d) k e =
    let h = all_digits c d e in rw h.0 (ap (λ (x : List ℕ). c ∷ x) (digits_padded d k h.1))

module _ (s : List ℕ) where
  pub plain_then : is_plain s ≡ true → (digits_of (dropped s) ≡ dropped s) × (0 < length (dropped s))
  unfolding is_plain
  plain_then e =
      let ds : List ℕ = digits_of s in
      let (k, is) = spaces_are (drop (length ds) s) (and_right (ltb 0 (length ds)) (are_spaces (drop (length ds) s)) e) in
      let text : s ≡ ds ++ replicate k 32 = digits_first s ∙ ap (λ (x : List ℕ). ds ++ x) is in
      let whole : dropped s ≡ ds = ap dropped text ∙ dropped_behind ds k ∙ digits_whole ds (digits_digits s) in
      let some : 0 < length ds = ltb-true 0 (length ds) (and_left (ltb 0 (length ds)) (are_spaces (drop (length ds) s)) e) in
      (ap digits_of whole ∙ digits_digits s ∙ sym whole, omega (arith, ap length whole))

  pub then_plain : digits_of (dropped s) ≡ dropped s → 0 < length (dropped s) → (is_plain s ≡ true) × (number_from 0 (dropped s) ≡ number_of s)
  unfolding is_plain are_spaces
  then_plain e h =
      let d : List ℕ = dropped s in
      let (k, text) = dropped_then s in
      let ds : digits_of s ≡ d = ap digits_of text ∙ digits_padded d k e in
      let spaces : are_spaces (drop (length d) s) ≡ true =
      ap (λ (x : List ℕ). are_spaces (drop (length d) x)) text ∙ ap are_spaces (drop-append_seam d (replicate k 32)) ∙ spaces_behind [] k
      in
      (rw ds (and_both (ltb 0 (length d)) (are_spaces (drop (length d) s)) (lt-ltb 0 (length d) h) spaces), ap (number_from 0) (sym ds))

  pub dropped_short : length (dropped s) ≤ length s
  dropped_short = let (k, text) = dropped_then s in omega (arith, ap length text, length-append (dropped s) (replicate k 32))

-- ---- the first i characters are digits and write n

pub record Digits (d : List ℕ) (i n : ℕ) : Type 0 where
  pub decimal : digits_of d ≡ take i d ++ digits_of (drop i d)
  pub on : number_from n (drop i d) ≡ number_from 0 d
  pub small : n < 2 ^ (4 * i)

module _ {d : List ℕ} {i n : ℕ} (was : Digits d i n) where
  -- a number of at most eight digits is small
  pub few_small : i ≤ 8 → n < 2 ^ 32
  few_small h = let m : 2 ^ (4 * i) ≤ 2 ^ 32 = pow_mono {i = 4 * i} {j = 32} (omega arith) in omega (arith, was.small, m)

  module _ (h : i < length d) where
    next : is_decimal (get_or d i 0) ≡ true → digits_of (drop i d) ≡ get_or d i 0 ∷ digits_of (drop (i + 1) d)
    unfolding digits_of
    next e = rw (add-one, drop-cons d i 0 h) (simp e)

    pub digits_more : {m : ℕ} → is_decimal (get_or d i 0) ≡ true → m ≡ 10 * n + (get_or d i 0 - 48) → Digits d (i + 1) m
    unfolding number_from
    digits_more {m} e k =
        let x : ℕ = get_or d i 0 in
        let r = digit_range x e in
        let four : 4 * (i + 1) ≡ 4 * i + 4 = omega arith in
        let p : 2 ^ (4 * (i + 1)) ≡ 2 ^ (4 * i) * 16 = ap (λ (j : ℕ). 2 ^ j) four ∙ pow-add 2 (4 * i) 4 in
        let front : take (i + 1) d ≡ take i d ++ x ∷ [] = ap (λ (j : ℕ). take j d) (add-one i) ∙ take-suc d i 0 h in
        let back : drop i d ≡ x ∷ drop (i + 1) d = drop-cons d i 0 h ∙ ap (λ (j : ℕ). x ∷ drop j d) (sym (add-one i)) in
        record {
          decimal =
              was.decimal ∙ ap (λ (y : List ℕ). take i d ++ y) (next e) ∙ sym (append_assoc (take i d) (x ∷ []) (digits_of (drop (i + 1) d)))
              ∙ ap (λ (y : List ℕ). y ++ digits_of (drop (i + 1) d)) (sym front);
          on = ap (λ (j : ℕ). number_from j (drop (i + 1) d)) k ∙ sym (ap (number_from n) back) ∙ was.on;
          small = omega (arith, k, r.0, r.1, p, was.small);
        }

    -- another character
    stop : is_decimal (get_or d i 0) ≡ false → digits_of (drop i d) ≡ []
    unfolding digits_of
    stop e = rw (drop-cons d i 0 h) (simp e)

    pub digits_stop : is_decimal (get_or d i 0) ≡ false → length (digits_of d) < length d
    digits_stop e =
        omega (arith, ap length was.decimal, length-append (take i d) (digits_of (drop i d)), ap length (stop e), length-take-le i d (omega arith))

  -- all characters
  pub digits_all : length d ≤ i → (digits_of d ≡ d) × (n ≡ number_from 0 d)
  unfolding digits_of number_from
  digits_all h =
      let none : drop i d ≡ [] = drop_of_length-le d h in (
        was.decimal ∙ ap₂ (λ (a b : List ℕ). a ++ digits_of b) (take_all i d h) none ∙ append-nil d,
        sym (ap (number_from n) none) ∙ was.on,
      )

-- ---- what reading a number then gives

module _ (s d : List ℕ) (t : d ≡ dropped s) where
  other : is_plain s ≡ false → [] ≡ number_read s
  unfolding number_read
  other e = simp e

  pub read_none : length d ≡ 0 → [] ≡ number_read s
  read_none h = other (go (is_plain s) refl) where
    go : (b : Bool) → is_plain s ≡ b → b ≡ false
    go true e = let p = plain_then s e in absurd (omega (arith, p.1, ap length t))
    go false e = refl

  pub read_other : length (digits_of d) < length d → [] ≡ number_read s
  read_other h = other (go (is_plain s) refl) where
    go : (b : Bool) → is_plain s ≡ b → b ≡ false
    go true e = let p = plain_then s e in let q : digits_of d ≡ d = ap digits_of t ∙ p.0 ∙ sym t in absurd (omega (arith, ap length q))
    go false e = refl

  pub read_plain : {n : ℕ} → 0 < length d → (digits_of d ≡ d) × (n ≡ number_from 0 d) → n ∷ [] ≡ number_read s
  unfolding number_read
  read_plain {n} h a =
      let p = then_plain s (sym (ap digits_of t) ∙ a.0 ∙ t) (omega (arith, ap length t)) in
      rw p.0 (ap (λ (x : ℕ). x ∷ []) (a.1 ∙ ap (number_from 0) t ∙ p.1))
