-- Digits: what `digit_read` says of a character, by where it stands among the characters 0, 9, A and F, and back from what was read. Assumes nothing.
use mathlib.Core.Path.{◌≡◌, refl, sym, ◌∙◌}
use mathlib.Core.Bool.{Bool, true, false, ◌&&◌, ◌||◌, cond, true≢false}
use mathlib.Core.List.{List, [], ◌∷◌}
use Prim.Native.Nat.{ℕ, zero, suc, ◌+◌, ◌-◌, ◌≤◌, ◌<◌}
use native.Mathlib.Nat.{not-suc-le-zero, le_of_suc-le-suc}
use native.Mathlib.Decide.{dec_lt}
use native.Mathlib.Omega.{arith}
use lib.Dec.{leb, ltb, eqb}
use lib.ListN.{length, get_or}
use borrow.Author.Tests.{lt-ltb, le-ltb, le-leb, lt-leb, leb-true, ne_eqb}
use Rattle.std.specs.Prelude.{Option, Some, None, is_some}
use Rattle.fieldset.proofs.Tests.{and_left, and_right}
use Rattle.hexadecimal.specs.Hex.{is_digit, digit_of, char_of, are_digits, lf}
use Rattle.hexadecimal.specs.Answers.{digit_values, digit_read}

-- what each character is
pub below_0 : (c : ℕ) → c < 48 → [] ≡ digit_read c
unfolding digit_read is_digit
below_0 c h = simp (lt-leb 48 c h, lt-leb 65 c (omega arith))

pub from_0 : (c : ℕ) → 48 ≤ c → c ≤ 57 → (c - 48) ∷ [] ≡ digit_read c
unfolding digit_read is_digit digit_of
from_0 c h k = simp (le-leb 48 c h, le-leb c 57 k)

pub below_A : (c : ℕ) → 57 < c → c < 65 → [] ≡ digit_read c
unfolding digit_read is_digit
below_A c h k = simp (le-leb 48 c (omega arith), lt-leb c 57 h, lt-leb 65 c k)

pub from_A : (c : ℕ) → 65 ≤ c → c ≤ 70 → (c - 55) ∷ [] ≡ digit_read c
unfolding digit_read is_digit digit_of
from_A c h k = simp (le-leb 48 c (omega arith), lt-leb c 57 (omega arith), le-leb 65 c h, le-leb c 70 k)

pub behind_F : (c : ℕ) → 70 < c → [] ≡ digit_read c
unfolding digit_read is_digit
behind_F c h = simp (le-leb 48 c (omega arith), lt-leb c 57 (omega arith), le-leb 65 c (omega arith), lt-leb c 70 h)

-- what reading a character tells
pub value_read : (c x : ℕ) → x ∷ [] ≡ digit_read c → (is_digit c ≡ true) × (x ≡ digit_of c)
unfolding digit_read
value_read c x e = go (is_digit c) e where
  go : (b : Bool) → x ∷ [] ≡ cond b (digit_of c ∷ []) [] → (b ≡ true) × (x ≡ digit_of c)
  go true h = (refl, cc)
  go false h = let z : ◌≡◌ {A = ℕ} 0 1 = cc in absurd (omega arith)

pub other_read : (c : ℕ) → [] ≡ digit_read c → is_digit c ≡ false
unfolding digit_read
other_read c e = go (is_digit c) e where
  go : (b : Bool) → [] ≡ cond b (digit_of c ∷ []) [] → b ≡ false
  go true h = let z : ◌≡◌ {A = ℕ} 0 1 = cc in absurd (omega arith)
  go false h = refl

-- only a digit has a value
pub is_some_read : (c : ℕ) (d : Option ℕ) → digit_values d ≡ digit_read c → is_some d ≡ is_digit c
is_some_read c (Some x) e = sym (value_read c x e).0
is_some_read c None e = sym (other_read c e)

-- the value of a digit is below 16
pub digit_below : (c : ℕ) → is_digit c ≡ true → digit_of c < 16
unfolding is_digit digit_of
digit_below c e = go (leb c 57) refl where
  last : (a b d : Bool) → a && false || b && d ≡ true → d ≡ true
  last a b true h = refl
  last true true false h = h
  last true false false h = h
  last false true false h = h
  last false false false h = h

  go : (b : Bool) → leb c 57 ≡ b → cond (leb c 57) (c - 48) (c - 55) < 16
  go true h = rw h (omega (arith, leb-true c 57 h))
  go false h = rw h (omega (arith, leb-true c 70 (last (leb 48 c) (leb 65 c) (leb c 70) (rw h at e))))

-- each character of a line of digits is one
pub digits_at : (s : List ℕ) (i : ℕ) → are_digits s ≡ true → i < length s → is_digit (get_or s i 0) ≡ true
unfolding are_digits
digits_at [] i e h = absurd (not-suc-le-zero h)
digits_at (c ∷ s) zero e h = and_left (is_digit c) (are_digits s) e
digits_at (c ∷ s) (suc i) e h = digits_at s i (and_right (is_digit c) (are_digits s) e) (le_of_suc-le-suc h)

pub other_digits : (s : List ℕ) (i : ℕ) → i < length s → is_digit (get_or s i 0) ≡ false → are_digits s ≡ false
other_digits s i h e = go (are_digits s) refl where
  go : (b : Bool) → are_digits s ≡ b → b ≡ false
  go true d = absurd (true≢false (sym (digits_at s i d h) ∙ e))
  go false d = refl

-- the digit of a value tells it
module _ (x : ℕ) where
  pub digit_char : digit_of (char_of x) ≡ x
  unfolding digit_of char_of
  digit_char = go (dec_lt x 10)
    where
      go : Dec (x < 10) → digit_of (char_of x) ≡ x
      go (yes l) = rw (lt-ltb x 10 l, le-leb (x + 48) 57 (omega arith)) (omega arith)
      go (no l) = rw (le-ltb x 10 (omega arith), lt-leb (x + 55) 57 (omega arith)) (omega arith)

  -- it is a digit, and no LF
  pub char_digit : x < 16 → is_digit (char_of x) ≡ true
  unfolding is_digit char_of
  char_digit h = go (dec_lt x 10)
    where
      go : Dec (x < 10) → is_digit (char_of x) ≡ true
      go (yes l) = simp (lt-ltb x 10 l, le-leb 48 (x + 48) (omega arith), le-leb (x + 48) 57 (omega arith))
      go (no l) =
          simp (
            le-ltb x 10 (omega arith),
            le-leb 48 (x + 55) (omega arith),
            lt-leb (x + 55) 57 (omega arith),
            le-leb 65 (x + 55) (omega arith),
            le-leb (x + 55) 70 (omega arith),
          )

  pub char_no_lf : eqb (char_of x) lf ≡ false
  unfolding char_of
  char_no_lf = go (ltb x 10)
    where
      go : (b : Bool) → eqb (cond b (x + 48) (x + 55)) lf ≡ false
      go true = ne_eqb (x + 48) lf (omega arith)
      go false = ne_eqb (x + 55) lf (omega arith)
