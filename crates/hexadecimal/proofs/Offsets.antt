-- Offsets: every character before the offset is a digit (`before_offset`), and the one at it is none, unless the line ends there (`at_offset`); all are
-- digits exactly where it is the length. `Read`: the characters from a position on decide the offset, with a law for each way on. By induction on the
-- line. Assumes nothing.
use mathlib.Core.Path.{◌≡◌, refl, ap}
use mathlib.Core.Bool.{Bool, true, false, ◌&&◌, cond}
use mathlib.Core.List.{List, [], ◌∷◌}
use Prim.Native.Nat.{ℕ, zero, suc, ◌+◌, ◌≤◌, ◌<◌}
use native.Mathlib.Nat.{not-suc-le-zero, le_of_suc-le-suc}
use native.Mathlib.Numerals.{add-one}
use native.Mathlib.Omega.{arith}
use lib.ListN.{length, get_or, drop, drop_of_length-le}
use lib.Seq.{drop-cons}
use Rattle.hexadecimal.specs.Hex.{is_digit, are_digits, offset_of}
use Rattle.hexadecimal.proofs.Digits.{other_digits}

pub offset_within : (s : List ℕ) → offset_of s ≤ length s
unfolding offset_of
offset_within [] = omega arith
offset_within (c ∷ s) = go (is_digit c) (offset_within s) where
  go : (b : Bool) → offset_of s ≤ length s → cond b (suc (offset_of s)) 0 ≤ length (c ∷ s)
  go true h = omega arith
  go false h = omega arith

pub before_offset : (s : List ℕ) (i : ℕ) → i < offset_of s → is_digit (get_or s i 0) ≡ true
unfolding offset_of
before_offset [] i h = absurd (not-suc-le-zero h)
before_offset (c ∷ s) i h = go (is_digit c) refl i h (before_offset s) where
  go : (b : Bool) → is_digit c ≡ b → (i : ℕ) → i < cond b (suc (offset_of s)) 0 → ((j : ℕ) → j < offset_of s → is_digit (get_or s j 0) ≡ true)
      → is_digit (get_or (c ∷ s) i 0) ≡ true
  go true e zero h behind = e
  go true e (suc i) h behind = behind i (le_of_suc-le-suc h)
  go false e i h behind = absurd (not-suc-le-zero h)

pub at_offset : (s : List ℕ) → offset_of s < length s → is_digit (get_or s (offset_of s) 0) ≡ false
unfolding offset_of
at_offset [] h = absurd (not-suc-le-zero h)
at_offset (c ∷ s) h = go (is_digit c) refl h (at_offset s) where
  go : (b : Bool) → is_digit c ≡ b → cond b (suc (offset_of s)) 0 < length (c ∷ s) → (offset_of s < length s → is_digit (get_or s (offset_of s) 0) ≡ false)
      → is_digit (get_or (c ∷ s) (cond b (suc (offset_of s)) 0) 0) ≡ false
  go true e h behind = behind (le_of_suc-le-suc h)
  go false e h behind = e

-- all characters are digits exactly where the offset is the length
pub other_offset : (s : List ℕ) → offset_of s < length s → are_digits s ≡ false
other_offset s h = other_digits s (offset_of s) h (at_offset s h)

pub end_offset : (s : List ℕ) → length s ≤ offset_of s → are_digits s ≡ true
unfolding are_digits offset_of
end_offset [] h = refl
end_offset (c ∷ s) h = go (is_digit c) h (end_offset s) where
  go : (b : Bool) → length (c ∷ s) ≤ cond b (suc (offset_of s)) 0 → (length s ≤ offset_of s → are_digits s ≡ true) → b && are_digits s ≡ true
  go true k behind = behind (le_of_suc-le-suc k)
  go false k behind = absurd (not-suc-le-zero k)

-- the characters from i on decide the offset
pub record Read (s : List ℕ) (i : ℕ) : Type 0 where
  pub within : i ≤ length s
  pub rest : i + offset_of (drop i s) ≡ offset_of s

pub read_more : (s : List ℕ) (i : ℕ) → Read s i → i < length s → is_digit (get_or s i 0) ≡ true → Read s (i + 1)
unfolding offset_of
read_more s i was h k =
    let on : offset_of (drop i s) ≡ suc (offset_of (drop (i + 1) s)) = rw (add-one, drop-cons s i 0 h) (simp k) in
    record { within = omega arith; rest = omega (arith, on, was.rest) }

-- another character, or the end
pub read_other : (s : List ℕ) (i : ℕ) → Read s i → i < length s → is_digit (get_or s i 0) ≡ false → i ≡ offset_of s
unfolding offset_of
read_other s i was h k =
    let stop : offset_of (drop i s) ≡ 0 = rw (drop-cons s i 0 h) (simp k) in
    omega (arith, stop, was.rest)

pub read_end : (s : List ℕ) (i : ℕ) → Read s i → length s ≤ i → length s ≡ offset_of s
unfolding offset_of
read_end s i was h =
    let none : offset_of (drop i s) ≡ 0 = ap offset_of (drop_of_length-le s {i = i} h) in
    omega (arith, none, was.rest)
