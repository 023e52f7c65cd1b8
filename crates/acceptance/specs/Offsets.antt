-- Where a line is wrong: statements. Quotations are of document 02, request 1, or of document 01 where that is said.
use Rattle.std.specs.Prelude.{ℕ, ◌/◌, ◌%◌, ◌<◌, min, ◌≡◌, ◌⊎◌, ◌↔◌, true, false, List, [], ◌∷◌, length}
use Rattle.fieldset.specs.Tables.{at}
use Rattle.sheet.specs.declared.Sheet.{Sheet}
use Rattle.hexadecimal.specs.Hex.{is_digit}
use Rattle.lines.specs.Lines.{lines_of}
use Rattle.frames.specs.Texts.{refusal_of, is_too_long}
use Rattle.frames.specs.Frames.{line_answer}
use Rattle.acceptance.specs.Lines.{replies_to}
use Rattle.acceptance.specs.Replies.{Each}

-- ---- BadHex

-- a reply whose refusal has the number of BadHex
abbrev pub IsBadHex : List ℕ → Type 0
IsBadHex reply = refusal_of reply ≡ 0x01

-- at a position stands a character that is not 0-9 or A-F
pub record OtherAt (line : List ℕ) (i : ℕ) : Type 0 where
  pub within : i < length line
  pub other : is_digit (at line i) ≡ false

-- "empty line, odd count, another character" (document 01)
abbrev pub IsWrong : List ℕ → Type 0
IsWrong line = (length line ≡ 0) ⊎ ((length line % 2 ≡ 1) ⊎ ((i : ℕ) × OtherAt line i))

-- BadHex is given exactly as before
abbrev pub BadHexExactly : Type 0
BadHexExactly = (s : Sheet) (line : List ℕ) → IsBadHex (line_answer s line).reply ↔ IsWrong line

-- ---- the offset

-- "where there is none, the line's length (odd or empty)"
pub record AtEnd (line : List ℕ) (offset : ℕ) : Type 0 where
  pub end : offset ≡ length line
  pub wrong_count : (length line % 2 ≡ 1) ⊎ (length line ≡ 0)

-- "the offset from 0 in the line of the first character that is not a digit or A-F": every character before the offset is a digit, and at the offset
-- stands another character; or the offset is the length of the line, and that is odd or 0
pub record WrongAt (line : List ℕ) (offset : ℕ) : Type 0 where
  pub before : (i : ℕ) → i < offset → is_digit (at line i) ≡ true
  pub there : OtherAt line offset ⊎ AtEnd line offset

-- "FF 01 and two bytes (most significant first ..), the offset"
pub record TellsOffset (line reply : List ℕ) : Type 0 where
  pub offset : ℕ
  pub wrong : WrongAt line offset
  pub bytes : reply ≡ 0xFF ∷ 0x01 ∷ offset / 256 ∷ offset % 256 ∷ []
  pub two : offset / 256 < 256

-- each line of a text, from an unopened panel on: where its reply is BadHex, that tells the offset
abbrev pub OffsetsTold : Type 0
OffsetsTold =
    (text : List ℕ) → is_too_long text ≡ false → Each (λ line reply. IsBadHex reply → TellsOffset line reply) (lines_of text) (replies_to text)

-- a line of any length, at any sheet: an offset over 65,535, which no line of a text within the limit has, is told as 65,535
pub record TellsAtMost (line reply : List ℕ) : Type 0 where
  pub offset : ℕ
  pub wrong : WrongAt line offset
  pub bytes : reply ≡ 0xFF ∷ 0x01 ∷ min offset 0xFFFF / 256 ∷ min offset 0xFFFF % 256 ∷ []

abbrev pub OffsetTold : Type 0
OffsetTold = (s : Sheet) (line : List ℕ) → IsBadHex (line_answer s line).reply → TellsAtMost line (line_answer s line).reply
