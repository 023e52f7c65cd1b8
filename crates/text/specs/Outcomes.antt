-- What a whole text is answered, whatever answers its lines; and the fields of the panel after it.
use Rattle.std.specs.Prelude.{ℕ, ◌^◌, ◌<◌, ◌≡◌, cond, List, [], ◌∷◌, ℤ, length, Option, Some, None}
use Rattle.std.proofs.lemmas.List.Edits.{sets}
use Rattle.panel.specs.declared.Refusal.TheVariants.{TextTooLong as TooLong}
use Rattle.panel.specs.Answers.{refusal_bytes}
use Rattle.hexadecimal.specs.Hex.{line_of}
use Rattle.tally.specs.declared.Tally.{Tally}
use Rattle.lines.specs.Lines.{lines_of}
use Rattle.frames.specs.Texts.{LineAnswer, replies, tally_after, output, is_too_long, output_of}
use Rattle.sheet.specs.Sheets.{unopened}
use Rattle.frames.specs.Frames.{sheet_after}

-- the characters of the tally's line: 11 bytes and an LF
abbrev pub tally_length : ℕ
tally_length = 23

-- a text's answer by its number and values: 00 and the length of the whole output, or FF and the refusal's number
abbrev pub outcome_numbers : Option ℕ → List ℕ
outcome_numbers (Some n) = 0x00 ∷ n ∷ []
outcome_numbers None = 0xFF ∷ refusal_bytes TooLong

-- a length that is told is far from the greatest number
abbrev pub Bounded : Option ℕ → Type 0
Bounded (Some n) = n < 2 ^ 63
Bounded None = Unit {0}

-- from a state and a tally on
module _ {S : Type 0} (answer : LineAnswer S) (s : S) (t : Tally) where
  abbrev pub whole_output : List ℕ → List ℕ
  whole_output text = output answer s t (lines_of text)

  -- "TextTooLong, over 65,535 bytes"
  unfoldable pub outcome_of : List ℕ → List ℕ
  outcome_of text = cond (is_too_long text) (0xFF ∷ refusal_bytes TooLong) (0x00 ∷ length (whole_output text) ∷ [])

  -- as many of its first bytes as fit; TextTooLong "changes nothing"
  unfoldable pub buffer_after : List ℕ → List ℕ → List ℕ
  buffer_after text before = cond (is_too_long text) before (sets before 0 (whole_output text))

  unfoldable pub tally_at_end : List ℕ → Tally
  tally_at_end text = cond (is_too_long text) t (tally_after t (replies answer s (lines_of text)))

  -- all that a text is answered: the outcome, the buffer and the tally u afterwards
  pub record Told (text : List ℕ) (u : Tally) (before after : List ℕ) (r : Option ℕ) : Type 0 where
    pub outcome : outcome_numbers r ≡ outcome_of text
    pub buffer : after ≡ buffer_after text before
    pub tally : u ≡ tally_at_end text

-- what is told of a text from a new tally on, as what the program writes for it: its output, of the length that is told, stands at the start of the
-- buffer; where the text is too long, its output is the line of that refusal
abbrev pub AsWritten : {S : Type 0} → LineAnswer S → S → List ℕ → List ℕ → List ℕ → Option ℕ → Type 0
AsWritten answer s text before after (Some n) = (n ≡ length (output_of answer s text)) × (after ≡ sets before 0 (output_of answer s text))
AsWritten answer s text before after None = (output_of answer s text ≡ line_of (0xFF ∷ refusal_bytes TooLong)) × (after ≡ before)

-- ---- the fields after a text

-- how many there are after the text's lines, from an unopened panel on; 0 where it is too long
unfoldable pub fields_after : List ℕ → ℕ
fields_after text = cond (is_too_long text) 0 (sheet_after unopened (lines_of text)).panel.size

-- their values; as before where it is too long
unfoldable pub values_after : List ℕ → List ℤ → List ℤ
values_after text before = cond (is_too_long text) before (sheet_after unopened (lines_of text)).values
