-- The lines of a text; where a line ends, and where the next one begins.
use Rattle.std.specs.Prelude.{ℕ, suc, ◌+◌, cond, List, [], ◌∷◌, eqb, ltb}
use Rattle.hexadecimal.specs.Hex.{lf}

-- a character in front of the first line; where there is no line, it is one
abbrev pub before : ℕ → List (List ℕ) → List (List ℕ)
before c [] = (c ∷ []) ∷ []
before c (l ∷ ls) = (c ∷ l) ∷ ls

-- "A line ends at LF or at the end of the text; a text that ends in LF has no further line, and an empty text has none"
unfoldable pub lines_of : List ℕ → List (List ℕ)
lines_of [] = []
lines_of (c ∷ s) = cond (eqb c lf) ([] ∷ lines_of s) (before c (lines_of s))

-- how many characters stand before the first LF, or before the end
unfoldable pub line_length : List ℕ → ℕ
line_length [] = 0
line_length (c ∷ s) = cond (eqb c lf) 0 (suc (line_length s))

-- the position behind a line's LF, or the end of a text of this length
unfoldable pub behind_of : ℕ → ℕ → ℕ
behind_of end size = cond (ltb end size) (end + 1) end
