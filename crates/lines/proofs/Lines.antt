-- The lines of a text: where a line ends, and what is behind it. By induction on the text, by cases on whether its first character is LF: the first
-- line is what stands before the first LF, and the other lines are those of the text behind it (`lines_on`).
use mathlib.Core.Path.{◌≡◌, refl, sym, ap, ap₂, ◌∙◌}
use mathlib.Core.Bool.{Bool, true, false, cond}
use mathlib.Core.List.{List, [], ◌∷◌, ◌++◌, append_assoc}
use Prim.Native.Nat.{ℕ, suc, ◌+◌, ◌-◌, ◌≤◌, ◌<◌}
use native.Mathlib.Nat.{not-suc-le-zero}
use native.Mathlib.Numerals.{add-one}
use native.Mathlib.Omega.{arith}
use lib.Dec.{ltb, eqb}
use lib.ListN.{length, get_or, take, drop, drop_of_length-le, length-drop}
use lib.Seq.{drop-cons, drop-drop}
use borrow.Author.Tests.{ltb-true, ltb-false, eq-eqb, ne_eqb}
use Rattle.hexadecimal.specs.Hex.{lf, hex_of, line_of}
use Rattle.hexadecimal.proofs.Digits.{char_no_lf}
use Rattle.lines.specs.Lines.{before, lines_of, line_length, behind_of}

-- ---- where a line ends

pub length_on : (s : List ℕ) (i : ℕ) → i < length s → (get_or s i 0 ≡ lf → ⊥) → i + 1 + line_length (drop (i + 1) s) ≡ i + line_length (drop i s)
unfolding line_length
length_on s i h k = rw (add-one, drop-cons s i 0 h) (simp (ne_eqb (get_or s i 0) lf k) (omega arith))

pub length_stop : (s : List ℕ) (i : ℕ) → i < length s → get_or s i 0 ≡ lf → i ≡ i + line_length (drop i s)
unfolding line_length
length_stop s i h k = rw (drop-cons s i 0 h) (simp (eq-eqb (get_or s i 0) lf k) (omega arith))

pub length_end : (s : List ℕ) (i : ℕ) → length s ≤ i → i ≡ i + line_length (drop i s)
unfolding line_length
length_end s i h = rw (drop_of_length-le s {i = i} h) (omega arith)

pub line_within : (s : List ℕ) → line_length s ≤ length s
unfolding line_length
line_within [] = omega arith
line_within (c ∷ s) = go (eqb c lf) (line_within s) where
  go : (b : Bool) → line_length s ≤ length s → cond b 0 (suc (line_length s)) ≤ suc (length s)
  go true h = omega arith
  go false h = omega arith

-- ---- the first line and the rest

pub lines_none : lines_of [] ≡ []
unfolding lines_of
lines_none = refl

-- an LF ends a line; another character belongs to the first line
lines_lf : (c : ℕ) (s : List ℕ) → eqb c lf ≡ true → lines_of (c ∷ s) ≡ [] ∷ lines_of s
unfolding lines_of
lines_lf c s e = simp e

lines_other : (c : ℕ) (s : List ℕ) → eqb c lf ≡ false → lines_of (c ∷ s) ≡ before c (lines_of s)
unfolding lines_of
lines_other c s e = simp e

in_front : (c : ℕ) (s : List ℕ) → (0 < length s → lines_of s ≡ take (line_length s) s ∷ lines_of (drop (suc (line_length s)) s))
    → before c (lines_of s) ≡ (c ∷ take (line_length s) s) ∷ lines_of (drop (suc (line_length s)) s)
unfolding lines_of line_length
in_front c [] h = refl
in_front c (d ∷ s) h = ap (before c) (h (omega arith))

lines_first : (s : List ℕ) → 0 < length s → lines_of s ≡ take (line_length s) s ∷ lines_of (drop (suc (line_length s)) s)
unfolding line_length
lines_first [] h = absurd (not-suc-le-zero h)
lines_first (c ∷ s) h = go (eqb c lf) refl (in_front c s (lines_first s)) where
  go : (b : Bool) → eqb c lf ≡ b → before c (lines_of s) ≡ (c ∷ take (line_length s) s) ∷ lines_of (drop (suc (line_length s)) s)
      → lines_of (c ∷ s) ≡ take (cond b 0 (suc (line_length s))) (c ∷ s) ∷ lines_of (drop (suc (cond b 0 (suc (line_length s)))) (c ∷ s))
  go true e i = lines_lf c s e
  go false e i = lines_other c s e ∙ i

pub lines_few : (s : List ℕ) → length (lines_of s) ≤ length s
unfolding lines_of
lines_few [] = omega arith
lines_few (c ∷ s) = go (eqb c lf) (lines_few s) (lines_of s) refl where
  go : (b : Bool) → length (lines_of s) ≤ length s → (ls : List (List ℕ)) → lines_of s ≡ ls → length (cond b ([] ∷ ls) (before c ls)) ≤ suc (length s)
  go true h ls e = omega (arith, ap length e)
  go false h [] e = omega arith
  go false h (x ∷ ls) e = omega (arith, ap length e)

-- ---- the line from a position of a text, its end, and the position behind it

module _ (text : List ℕ) (from end : ℕ) (h : from < length text) (e : end ≡ from + line_length (drop from text)) where
  pub end_within : end ≤ length text
  end_within = omega (arith, line_within (drop from text), length-drop from text)

  pub behind_within : behind_of end (length text) ≤ length text
  unfolding behind_of
  behind_within = go (ltb end (length text)) refl where
    go : (b : Bool) → ltb end (length text) ≡ b → cond b (end + 1) end ≤ length text
    go true t = omega (arith, ltb-true end (length text) t)
    go false t = end_within

  pub behind_on : from < behind_of end (length text)
  unfolding behind_of
  behind_on = go (ltb end (length text)) refl where
    go : (b : Bool) → ltb end (length text) ≡ b → from < cond b (end + 1) end
    go true t = omega arith
    go false t = omega (arith, ltb-false end (length text) t)

  behind_rest : drop (suc (line_length (drop from text))) (drop from text) ≡ drop (behind_of end (length text)) text
  unfolding behind_of
  behind_rest = drop-drop (suc (line_length (drop from text))) from text ∙ go (ltb end (length text)) refl where
    go : (b : Bool) → ltb end (length text) ≡ b → drop (from + suc (line_length (drop from text))) text ≡ drop (cond b (end + 1) end) text
    go true t = let k : from + suc (line_length (drop from text)) ≡ end + 1 = omega arith in ap (λ (i : ℕ). drop i text) k
    go false t =
        let k : length text ≤ end = ltb-false _ _ t in
        let l : length text ≤ from + suc (line_length (drop from text)) = omega arith in
        drop_of_length-le text l ∙ sym (drop_of_length-le text k)

  pub lines_on : lines_of (drop from text) ≡ take (end - from) (drop from text) ∷ lines_of (drop (behind_of end (length text)) text)
  lines_on =
      let k : line_length (drop from text) ≡ end - from = omega arith in
      lines_first (drop from text) (omega (arith, length-drop from text))
      ∙ ap₂ (λ (n : ℕ) (r : List ℕ). take n (drop from text) ∷ lines_of r) k behind_rest

-- at the end of a text there is no further line
pub lines_end : (text : List ℕ) (from : ℕ) → length text ≤ from → lines_of (drop from text) ≡ []
lines_end text from h = ap lines_of (drop_of_length-le text h) ∙ lines_none

-- ---- lines of bytes

-- digits, an LF, and what follows
lines_hex : (bytes rest : List ℕ) → lines_of (hex_of bytes ++ (lf ∷ rest)) ≡ hex_of bytes ∷ lines_of rest
unfolding lines_of hex_of
lines_hex [] rest = refl
lines_hex (b ∷ bs) rest = simp (char_no_lf, lines_hex bs rest)

pub lines_line : (bytes rest : List ℕ) → lines_of (line_of bytes ++ rest) ≡ hex_of bytes ∷ lines_of rest
unfolding line_of
lines_line bytes rest = ap lines_of (append_assoc (hex_of bytes) (lf ∷ []) rest) ∙ lines_hex bytes rest
