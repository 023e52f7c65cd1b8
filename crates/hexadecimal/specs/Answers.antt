-- What reading a character and decoding a line give, by their values.
use Rattle.std.specs.Prelude.{ℕ, cond, List, [], ◌∷◌, length, Option, Some, None, Result, Ok, Err}
use Rattle.std.proofs.lemmas.List.Edits.{sets}
use Rattle.hexadecimal.specs.Hex.{is_digit, digit_of, is_hex, offset_of, bytes_of}
use Rattle.hexadecimal.specs.declared.BadHex.{BadHex}

-- a digit has its value, "another character" has none
abbrev pub digit_values : Option ℕ → List ℕ
digit_values (Some x) = x ∷ []
digit_values None = []

unfoldable pub digit_read : ℕ → List ℕ
digit_read c = cond (is_digit c) (digit_of c ∷ []) []

-- 00 and the length of the frame; FF and the offset of a line that is refused (BadHex's number stands with the refusals)
abbrev pub decoded_values : Result ℕ BadHex → List ℕ
decoded_values (Ok n) = 0x00 ∷ n ∷ []
decoded_values (Err e) = 0xFF ∷ e.offset ∷ []

unfoldable pub decoded : List ℕ → List ℕ
decoded s = cond (is_hex s) (0x00 ∷ length (bytes_of s) ∷ []) (0xFF ∷ offset_of s ∷ [])

-- the buffer, with the frame's first bytes, as many as fit, at its start
unfoldable pub frame_after : List ℕ → List ℕ → List ℕ
frame_after s frame = cond (is_hex s) (sets frame 0 (bytes_of s)) frame
