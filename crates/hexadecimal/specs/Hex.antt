-- Lines of hexadecimal: "Digits 0-9 and A-F, two a byte". Characters and bytes are numbers.
use Rattle.std.specs.Prelude.{ℕ, suc, ◌+◌, ◌-◌, ◌*◌, ◌/◌, ◌%◌, Bool, true, ◌&&◌, ◌||◌, cond, List, [], ◌∷◌, ◌++◌, leb, ltb, eqb, length}
use Prim.Native.Char.{code}

-- a letter is its value, from 10 on, behind this character
abbrev letter : ℕ
letter = code "A" - 10

-- a character 0-9 or A-F
unfoldable pub is_digit : ℕ → Bool
is_digit c = leb (code "0") c && leb c (code "9") || leb (code "A") c && leb c (code "F")

-- the value of a digit
unfoldable pub digit_of : ℕ → ℕ
digit_of c = cond (leb c (code "9")) (c - code "0") (c - letter)

-- the digit of a value below 16
unfoldable pub char_of : ℕ → ℕ
char_of x = cond (ltb x 10) (x + code "0") (x + letter)

unfoldable pub are_digits : List ℕ → Bool
are_digits [] = true
are_digits (c ∷ s) = is_digit c && are_digits s

-- the line is not refused with BadHex "(empty line, odd count, another character)"
unfoldable pub is_hex : List ℕ → Bool
is_hex s = ltb 0 (length s) && eqb (length s % 2) 0 && are_digits s

-- where a line is refused with BadHex: "the offset from 0 in the line of the first character that is not a digit or A-F; where there is none, the
-- line's length" (document 02, request 1)
unfoldable pub offset_of : List ℕ → ℕ
offset_of [] = 0
offset_of (c ∷ s) = cond (is_digit c) (suc (offset_of s)) 0

-- the bytes of a line of digits
unfoldable pub bytes_of : List ℕ → List ℕ
bytes_of [] = []
bytes_of (a ∷ []) = []
bytes_of (a ∷ b ∷ s) = (digit_of a * 16 + digit_of b) ∷ bytes_of s

-- bytes as digits
unfoldable pub hex_of : List ℕ → List ℕ
hex_of [] = []
hex_of (b ∷ bs) = char_of (b / 16) ∷ char_of (b % 16) ∷ hex_of bs

-- the character LF, which ends a line
abbrev pub lf : ℕ
lf = code "\n"

-- bytes as a line, with its LF
unfoldable pub line_of : List ℕ → List ℕ
line_of bytes = hex_of bytes ++ (lf ∷ [])

-- how many bytes of a frame are kept: those of a longest one, an add with 8 field bytes, and one more, which shows that a frame is longer
abbrev pub frame_room : ℕ
frame_room = 12
