-- What is written of a text whose panel is saved, and of a text that goes on from a saved panel (document 02, request 7).
use Rattle.std.specs.Prelude.{ℕ, ◌≤◌, cond, List, [], ◌∷◌, ◌++◌, Option, Some, None}
use Rattle.panel.specs.declared.Refusal.TheVariants.{TextTooLong, NotOpen as Closed}
use Rattle.panel.specs.Answers.{refusal_bytes, is_refusal}
use Rattle.panel.specs.Commands.{is_open}
use Rattle.sheet.specs.declared.Sheet.{Sheet}
use Rattle.sheet.specs.Sheets.{unopened}
use Rattle.sheet.specs.Commands.{Answer}
use Rattle.hexadecimal.specs.Hex.{line_of}
use Rattle.lines.specs.Lines.{lines_of}
use Rattle.frames.specs.Texts.{is_too_long, output_of}
use Rattle.frames.specs.Frames.{line_answer, sheet_after}
use Rattle.images.specs.Images.{image_of}
use Rattle.images.specs.Reading.{version, longest, read}

-- a length that is told is that of no text longer than the longest
abbrev pub Short : Option ℕ → Type 0
Short None = Unit {0}
Short (Some n) = n ≤ longest

-- the saved text of an open panel, else nothing
abbrev pub text_of : Sheet → List ℕ
text_of s = cond (is_open s.panel) (image_of version s) []

-- of the panel after the lines of a text, from an unopened one on; where the text is too long, nothing
unfoldable pub saved_text : List ℕ → List ℕ
saved_text text = cond (is_too_long text) [] (text_of (sheet_after unopened (lines_of text)))

-- the saved text of an open panel, else the line of NotOpen
abbrev pub saved_of : Sheet → List ℕ
saved_of s = cond (is_open s.panel) (image_of version s) (line_of (0xFF ∷ refusal_bytes Closed))

-- the panel after the lines of a text, from an unopened one on; where the text is too long the line of that refusal
unfoldable pub saved_output : List ℕ → List ℕ
saved_output text = cond (is_too_long text) (line_of (0xFF ∷ refusal_bytes TextTooLong)) (saved_of (sheet_after unopened (lines_of text)))

-- the line of the reply to the reading; where the saved text is taken in, the output of a text from there on
abbrev pub resumed_from : Answer → List ℕ → List ℕ
resumed_from a text = line_of a.reply ++ cond (is_refusal a.reply) [] (output_of line_answer a.sheet text)

unfoldable pub resumed_output : List ℕ → List ℕ → List ℕ
resumed_output saved text = resumed_from (read unopened saved) text
