-- The texts of a header: plain numbers and units. Quotations are of document 02, request 3. A character is its number in ASCII.
use Rattle.std.specs.Prelude.{ℕ, ◌+◌, ◌-◌, ◌*◌, Bool, true, false, not, ◌&&◌, ◌||◌, cond, List, [], ◌∷◌, map, leb, ltb, eqb, length, drop}
use Prim.Native.Char.{code}
use Rattle.hexadecimal.specs.Characters.{characters}

-- ---- spaces

unfoldable pub are_spaces : List ℕ → Bool
are_spaces [] = true
are_spaces (c ∷ s) = eqb c (code " ") && are_spaces s

-- "trailing spaces dropped"
unfoldable pub dropped : List ℕ → List ℕ
dropped [] = []
dropped (c ∷ s) = cond (are_spaces (c ∷ s)) [] (c ∷ dropped s)

-- ---- plain numbers

unfoldable pub is_decimal : ℕ → Bool
is_decimal c = leb (code "0") c && leb c (code "9")

-- the decimal digits at the start of a text
unfoldable pub digits_of : List ℕ → List ℕ
digits_of [] = []
digits_of (c ∷ s) = cond (is_decimal c) (c ∷ digits_of s) []

-- the number that digits write, behind those of n
unfoldable pub number_from : ℕ → List ℕ → ℕ
number_from n [] = n
number_from n (c ∷ s) = number_from (10 * n + (c - code "0")) s

-- "A plain number is one or more decimal digits, then only spaces to the end of its header field"
unfoldable pub is_plain : List ℕ → Bool
is_plain s = ltb 0 (length (digits_of s)) && are_spaces (drop (length (digits_of s)) s)

abbrev pub number_of : List ℕ → ℕ
number_of s = number_from 0 (digits_of s)

-- ---- units

-- s, "trailing spaces dropped, is" t, which does not end in a space: t, then only spaces
unfoldable pub is_text : List ℕ → List ℕ → Bool
is_text [] s = are_spaces s
is_text (a ∷ t) [] = false
is_text (a ∷ t) (b ∷ s) = eqb a b && is_text t s

-- "L/min or L/s", by the texts given for them
abbrev pub is_either : List ℕ → List ℕ → List ℕ → Bool
is_either minute second s = is_text minute s || is_text second s

unfoldable pub is_flow : List ℕ → Bool
is_flow s = is_either (characters "L/min") (characters "L/s") s

-- a letter in lower case
unfoldable pub lower : ℕ → ℕ
lower c = cond (leb (code "A") c && leb c (code "Z")) (c + (code "a" - code "A")) c

-- "one of the two texts but for letter case"
unfoldable pub is_unclear : List ℕ → Bool
is_unclear s = not (is_flow s) && is_either (characters "l/min") (characters "l/s") (map lower s)
