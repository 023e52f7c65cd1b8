-- Lengths of the digits and of the line of some bytes, the byte at a position of a line, and bytes read back from their digits: by induction on the list, two characters at a time
-- where it is a line. Assumes nothing.
use mathlib.Core.Path.{◌≡◌, refl, sym, ap₂, ◌∙◌}
use mathlib.Core.List.{List, [], ◌∷◌}
use mathlib.Core.Bool.{true}
use Prim.Native.Nat.{ℕ, zero, suc, ◌+◌, ◌*◌, ◌/◌, ◌%◌, ◌<◌}
use native.Mathlib.Nat.{not-suc-le-zero}
use native.Mathlib.Omega.{arith}
use lib.ListN.{length, get_or, length-append}
use Rattle.fieldset.specs.Lists.{All}
use Rattle.hexadecimal.specs.Hex.{digit_of, are_digits, bytes_of, hex_of, line_of}
use Rattle.hexadecimal.proofs.Digits.{digit_char, char_digit}

pub length_hex : (a : List ℕ) → length (hex_of a) ≡ 2 * length a
unfolding hex_of
length_hex [] = refl
length_hex (x ∷ a) = omega (arith, length_hex a)

pub length_line : (a : List ℕ) → length (line_of a) ≡ 2 * length a + 1
unfolding line_of
length_line a = omega (arith, length-append (hex_of a) (10 ∷ []), length_hex a)

pub length_bytes_lem : (s : List ℕ) → length (bytes_of s) ≡ length s / 2
unfolding bytes_of
length_bytes_lem [] = refl
length_bytes_lem (a ∷ []) = refl
length_bytes_lem (a ∷ b ∷ s) = omega (arith, length_bytes_lem s)

pub byte_at : (s : List ℕ) (k : ℕ) → 2 * k + 1 < length s → get_or (bytes_of s) k 0 ≡ digit_of (get_or s (2 * k) 0) * 16 + digit_of (get_or s (2 * k + 1) 0)
unfolding bytes_of
byte_at [] k h = absurd (not-suc-le-zero h)
byte_at (a ∷ []) k h = absurd (omega arith)
byte_at (a ∷ b ∷ s) zero h = refl
byte_at (a ∷ b ∷ s) (suc k) h =
    let e : 2 * suc k ≡ suc (suc (2 * k)) = omega arith in
    let f : 2 * suc k + 1 ≡ suc (suc (2 * k + 1)) = omega arith in
    byte_at s k (omega arith) ∙ ap₂ (λ (x : ℕ) (y : ℕ). digit_of (get_or (a ∷ b ∷ s) x 0) * 16 + digit_of (get_or (a ∷ b ∷ s) y 0)) (sym e) (sym f)

-- bytes can be read back from their digits
pub bytes_hex : (bytes : List ℕ) → All (λ b. b < 256) bytes → bytes_of (hex_of bytes) ≡ bytes
unfolding bytes_of hex_of
bytes_hex [] a = refl
bytes_hex (b ∷ bs) (l, a) =
    let e : b / 16 * 16 + b % 16 ≡ b = omega arith in
    rw (digit_char (b / 16), digit_char (b % 16), e, bytes_hex bs a)

pub digits_hex : (bytes : List ℕ) → All (λ b. b < 256) bytes → are_digits (hex_of bytes) ≡ true
unfolding are_digits hex_of
digits_hex [] a = refl
digits_hex (b ∷ bs) (l, a) = rw (char_digit (b / 16) (omega arith), char_digit (b % 16) (omega arith)) (digits_hex bs a)
