-- Which texts begin with a version that is not known: the test of their first four characters, in words. A digit is that of its value (`char_value`).
-- Assumes nothing.
use Prim.Native.Nat.{ℕ, ◌+◌, ◌-◌, ◌*◌, ◌/◌, ◌%◌, ◌<◌}
use mathlib.Core.Path.{◌≡◌, refl, ap, ◌∙◌}
use mathlib.Core.Bool.{Bool, true, false, not, ◌&&◌, false≢true}
use mathlib.Core.List.{List, [], ◌∷◌, ◌++◌}
use mathlib.Core.Logic.{◌⊎◌, inl, inr, ◌↔◌, ◌≢◌}
use native.Mathlib.Omega.{arith}
use lib.Dec.{leb, eqb}
use borrow.Author.Tests.{lt-ltb, le-ltb, le-leb, lt-leb, leb-true, eq-eqb, ne_eqb, eqb-true}
use Rattle.fieldset.proofs.Tests.{and_left, and_right}
use Rattle.fieldset.proofs.Numbers.{clash}
use Rattle.ordering.proofs.Sets.{or_cases}
use Rattle.hexadecimal.specs.Hex.{is_digit, digit_of, char_of, are_digits, is_hex, bytes_of, hex_of}
use Rattle.hexadecimal.proofs.Digits.{digit_below, digit_char, char_digit}
use Rattle.images.specs.Reading.{is_unknown}
use Rattle.exactness.specs.Saved.{BeginsUnknown}

-- a digit is that of its value
char_value : (c : ℕ) → is_digit c ≡ true → char_of (digit_of c) ≡ c
unfolding is_digit digit_of char_of
char_value c e = go (or_cases (leb 48 c && leb c 57) (leb 65 c && leb c 70) e)
  where
    go : ((leb 48 c && leb c 57) ≡ true) ⊎ ((leb 65 c && leb c 70) ≡ true) → char_of (digit_of c) ≡ c
    go (inl h) =
        let a = leb-true 48 c (and_left _ _ h) in
        let b = leb-true c 57 (and_right (leb 48 c) _ h) in
        rw (le-leb c 57 b, lt-ltb (c - 48) 10 (omega arith)) (omega arith)
    go (inr h) =
        let a = leb-true 65 c (and_left _ _ h) in
        let b = leb-true c 70 (and_right (leb 65 c) _ h) in
        rw (lt-leb c 57 (omega arith), le-ltb (c - 55) 10 (omega arith)) (omega arith)

-- two digits are those of their byte
byte_chars : (c d : ℕ) → is_digit c ≡ true → is_digit d ≡ true → (rest : List ℕ)
    → c ∷ d ∷ rest ≡ char_of ((digit_of c * 16 + digit_of d) / 16) ∷ char_of ((digit_of c * 16 + digit_of d) % 16) ∷ rest
byte_chars c d h k rest =
    let l = digit_below c h in
    let m = digit_below d k in
    let p : (digit_of c * 16 + digit_of d) / 16 ≡ digit_of c = omega arith in
    let q : (digit_of c * 16 + digit_of d) % 16 ≡ digit_of d = omega arith in
    rw (p, q, char_value c h, char_value d k)

not_true : (b : Bool) → not b ≡ true → b ≡ false
not_true true e = absurd (false≢true e)
not_true false e = refl

four : (a b c d : ℕ) (rest : List ℕ) → is_unknown (a ∷ b ∷ c ∷ d ∷ rest) ≡ true → BeginsUnknown (a ∷ b ∷ c ∷ d ∷ rest)
unfolding is_unknown is_hex are_digits bytes_of hex_of
four a b c d rest e =
    let digits = and_left (is_digit a && (is_digit b && (is_digit c && (is_digit d && true)))) _ e in
    let is = and_right (is_digit a && (is_digit b && (is_digit c && (is_digit d && true)))) _ e in
    let da = and_left (is_digit a) _ digits in
    let db = and_left (is_digit b) _ (and_right (is_digit a) _ digits) in
    let dc = and_left (is_digit c) _ (and_right (is_digit b) _ (and_right (is_digit a) _ digits)) in
    let dd = and_left (is_digit d) _ (and_right (is_digit c) _ (and_right (is_digit b) _ (and_right (is_digit a) _ digits))) in
    let ten : digit_of a * 16 + digit_of b ≡ 0x0A = eqb-true (digit_of a * 16 + digit_of b) 0x0A (and_left _ _ is) in
    let v = digit_of c * 16 + digit_of d in
    let other : eqb v 1 ≡ false = not_true _ (and_right (eqb (digit_of a * 16 + digit_of b) 0x0A) _ is) in
    record {
      second = v;
      byte = omega (arith, digit_below c dc, digit_below d dd);
      other = λ q. clash (eq-eqb v 1 q) other;
      rest = rest;
      begins =
          byte_chars a b da db (c ∷ d ∷ rest)
          ∙ ap (λ (x : ℕ). char_of (x / 16) ∷ char_of (x % 16) ∷ c ∷ d ∷ rest) ten
          ∙ ap (λ (t : List ℕ). char_of 0 ∷ char_of 10 ∷ t) (byte_chars c d dc dd rest);
    }

pub unknown_begins : (text : List ℕ) → is_unknown text ≡ true → BeginsUnknown text
unfolding is_unknown
unknown_begins [] e = absurd (false≢true e)
unknown_begins (a ∷ []) e = absurd (false≢true e)
unknown_begins (a ∷ b ∷ []) e = absurd (false≢true e)
unknown_begins (a ∷ b ∷ c ∷ []) e = absurd (false≢true e)
unknown_begins (a ∷ b ∷ c ∷ d ∷ rest) e = four a b c d rest e

hex_unknown : (v : ℕ) (rest : List ℕ) → v < 256 → v ≢ 1 → is_unknown (hex_of (0x0A ∷ v ∷ []) ++ rest) ≡ true
unfolding is_unknown is_hex are_digits bytes_of hex_of
hex_unknown v rest l other =
    let e : v / 16 * 16 + v % 16 ≡ v = omega arith in
    rw (
      char_digit 0 (omega arith),
      char_digit 10 (omega arith),
      char_digit (v / 16) (omega arith),
      char_digit (v % 16) (omega arith),
      digit_char 0,
      digit_char 10,
      digit_char (v / 16),
      digit_char (v % 16),
      e,
      ne_eqb v 1 other,
    )

pub begins_unknown : (text : List ℕ) → BeginsUnknown text → is_unknown text ≡ true
begins_unknown text x = ap is_unknown x.begins ∙ hex_unknown x.second x.rest x.byte x.other

pub known_begins : (text : List ℕ) → is_unknown text ≡ false → BeginsUnknown text → ⊥
known_begins text e x = clash (begins_unknown text x) e

-- the test of the version says the request's words
pub unknown_exactly : (text : List ℕ) → (is_unknown text ≡ true) ↔ BeginsUnknown text
unknown_exactly text = (unknown_begins text, begins_unknown text)
