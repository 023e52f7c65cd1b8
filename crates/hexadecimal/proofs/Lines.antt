-- Decoding a line: which lines are hexadecimal, by the three tests that `decode` makes; what it answers then; and `Filled`, what the loop of `fill`
-- keeps, where one more store is the run of stores one byte longer (`sets_more`). Assumes nothing.
use mathlib.Core.Path.{◌≡◌, sym, ap, ap₂, ◌∙◌}
use mathlib.Core.Bool.{Bool, true, false, ◌&&◌, and-false}
use mathlib.Core.List.{List}
use Prim.Native.Nat.{ℕ, ◌+◌, ◌*◌, ◌/◌, ◌%◌, ◌≤◌, ◌<◌}
use native.Mathlib.Decide.{dec_lt}
use native.Mathlib.Omega.{arith}
use lib.Dec.{ltb, eqb}
use lib.ListN.{length, get_or, take, set, length-set}
use lib.Seq.{sets, take_all}
use borrow.Author.Tests.{lt-ltb, le-ltb, eq-eqb, ne_eqb}
use Rattle.std.specs.Prelude.{min, Result, Ok, Err}
use Rattle.hexadecimal.specs.Hex.{digit_of, are_digits, is_hex, offset_of, bytes_of}
use Rattle.hexadecimal.specs.Answers.{decoded_values, decoded, frame_after}
use Rattle.hexadecimal.specs.declared.BadHex.{BadHex}
use Rattle.hexadecimal.proofs.Bytes.{length_bytes_lem, byte_at}
use Rattle.hexadecimal.proofs.Stores.{sets_fit, sets_more}

-- which lines are hexadecimal
pub hex_empty : (s : List ℕ) → length s ≡ 0 → is_hex s ≡ false
unfolding is_hex
hex_empty s h = simp (le-ltb 0 (length s) (omega arith))

pub hex_odd : (s : List ℕ) → length s % 2 ≡ 1 → is_hex s ≡ false
unfolding is_hex
hex_odd s h =
    ap (λ (b : Bool). ltb 0 (length s) && b && are_digits s) (ne_eqb (length s % 2) 0 (λ e. omega arith))
    ∙ ap (λ (b : Bool). b && are_digits s) (and-false (ltb 0 (length s)))

pub hex_other : (s : List ℕ) → are_digits s ≡ false → is_hex s ≡ false
unfolding is_hex
hex_other s h = ap (λ (b : Bool). ltb 0 (length s) && eqb (length s % 2) 0 && b) h ∙ and-false (ltb 0 (length s) && eqb (length s % 2) 0)

pub hex_line : (s : List ℕ) → (length s ≡ 0 → ⊥) → (length s % 2 ≡ 1 → ⊥) → are_digits s ≡ true → is_hex s ≡ true
unfolding is_hex
hex_line s e o h = simp (lt-ltb 0 (length s) (omega arith), eq-eqb (length s % 2) 0 (omega arith), h)

-- what decoding answers, and the buffer after it
abbrev pub Decodes : List ℕ → List ℕ → Result ℕ BadHex → List ℕ → Type 0
Decodes s f d after = (decoded_values d ≡ decoded s) × (after ≡ frame_after s f)

pub bad_line : (s f : List ℕ) (n : ℕ) → n ≡ offset_of s → is_hex s ≡ false → Decodes s f (Err (record { offset = n })) f
unfolding decoded frame_after
bad_line s f n e h = (simp (h, e), simp h)

pub good_line : (s f g : List ℕ) → is_hex s ≡ true → g ≡ sets f 0 (bytes_of s) → Decodes s f (Ok (length s / 2)) g
unfolding decoded frame_after
good_line s f g h e = (simp (h, length_bytes_lem s), simp h e)

-- the first i bytes of a line of digits are in the buffer
pub record Filled (s before after : List ℕ) (i : ℕ) : Type 0 where
  pub within : i ≤ 12
  pub size : length after ≡ 12
  pub bytes : after ≡ sets before 0 (take i (bytes_of s))

pub filled_more : (s f g : List ℕ) (i x : ℕ) → Filled s f g i → i < 12 → 2 * i + 1 < length s
    → x ≡ digit_of (get_or s (2 * i) 0) * 16 + digit_of (get_or s (2 * i + 1) 0) → Filled s f (set g i x) (i + 1)
filled_more s f g i x was less h k = record {
  within = omega arith;
  size = length-set g i x ∙ was.size;
  bytes = ap₂ (λ (l : List ℕ) (y : ℕ). set l i y) was.bytes (k ∙ sym (byte_at s i h)) ∙ sets_more f i (bytes_of s) (omega (arith, length_bytes_lem s));
}

-- the line is at its end, or the buffer is full
pub filled_all : (s f g : List ℕ) (i : ℕ) → Filled s f g i → length f ≡ 12 → min 12 (length s / 2) ≤ i → g ≡ sets f 0 (bytes_of s)
filled_all s f g i was e h = was.bytes ∙ go (dec_lt i 12)
  where
    go : Dec (i < 12) → sets f 0 (take i (bytes_of s)) ≡ sets f 0 (bytes_of s)
    go (yes l) = ap (sets f 0) (take_all i (bytes_of s) (omega (arith, length_bytes_lem s)))
    go (no l) = sets_fit i f 0 (bytes_of s) (omega arith)
