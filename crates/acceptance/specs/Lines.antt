-- What holds of every line and of every text: statements. Quotations are of document 01, or of the tender where that is said.
use Rattle.std.specs.Prelude.{ℕ, suc, ◌≡◌, true, false, ℤ, length}
use mathlib.Core.List.{List, [], ◌∷◌, ◌++◌, map, filter_map}
use Rattle.std.proofs.Math.Option.{some}
use Rattle.sheet.specs.declared.Sheet.{Sheet}
use Rattle.panel.specs.Answers.{is_refusal}
use Rattle.sheet.specs.Sheets.{unopened}
use Rattle.sheet.specs.Commands.{Command, entering}
use Rattle.optimality.specs.Condition3.{Store, Optimal, Run, after}
use Rattle.exactness.specs.Values.{Exact, EnteredExactly}
use Rattle.exactness.specs.Systems.{sheets}
use Rattle.exactness.specs.Beginnings.{Beginning, start_of}
use Rattle.hexadecimal.specs.Hex.{hex_of}
use Rattle.lines.specs.Lines.{lines_of}
use Rattle.tally.specs.Tallies.{no_tally, tally_bytes}
use Rattle.frames.specs.Texts.{LineAnswer, replies, tally_after, is_too_long}
use Rattle.frames.specs.Frames.{frame_of, command_of, line_answer, sheet_after, panel_output}
use Rattle.hexadecimal.specs.Characters.{characters}

-- ---- one reply for each line

-- "The answer to every command line, well formed or not, .. is one reply" (tender), whatever answers the lines
abbrev pub OneReplyEach : Type 1
OneReplyEach = (S : Type 0) (answer : LineAnswer S) (s : S) (lines : List (List ℕ)) → length (replies answer s lines) ≡ length lines

-- the replies to a text's lines; the first line meets an unopened panel
abbrev pub replies_to : List ℕ → List (List ℕ)
replies_to text = replies line_answer unopened (lines_of text)

-- the bytes of the tally after them
abbrev pub tally_to : List ℕ → List ℕ
tally_to text = tally_bytes (tally_after no_tally (replies_to text))

-- the lines of a text's output: "one reply a line, then the tally"
pub record RepliesThenTally (text : List ℕ) : Type 0 where
  pub lines : lines_of (panel_output text) ≡ map hex_of (replies_to text) ++ (hex_of (tally_to text) ∷ [])
  pub count : length (lines_of (panel_output text)) ≡ suc (length (lines_of text))

abbrev pub OutputLines : Type 0
OutputLines = (text : List ℕ) → is_too_long text ≡ false → RepliesThenTally text

-- "TextTooLong .. No line is treated; the whole output is the line FF0C, without tally"
abbrev pub OutputTooLong : Type 0
OutputTooLong = (text : List ℕ) → is_too_long text ≡ true → lines_of (panel_output text) ≡ characters "FF0C" ∷ []

-- ---- lines and commands

-- the commands that lines give, in order; "A line refused with 1 or 2 gives no command"
unfoldable pub commands_of : List (List ℕ) → List Command
commands_of lines = filter_map (λ line. command_of (frame_of line)) lines

-- such a line "leaves the panel as it stood": the sheet after lines is the sheet after their commands
abbrev pub LinesAsCommands : Type 0
LinesAsCommands =
    (s : Sheet) (b : Store) (lines : List (List ℕ)) → sheet_after s lines ≡ (after sheets (record { state = s; store = b }) (commands_of lines)).state

-- sheet and store after a text's commands, from a beginning: the first one "meets an unopened panel", or that of a saved text that was taken in
-- (document 02, request 7)
abbrev pub run_after : Beginning → List ℕ → Run sheets
run_after x text = after sheets (start_of x) (commands_of (lines_of text))

-- "so what holds after commands holds after lines": condition 3 after a text, about the panel that its lines leave; and a value that is then entered
-- leaves each held formula right (document 02, request 2)
pub record AfterText (x : Beginning) (text : List ℕ) : Type 0 where
  pub optimal : Optimal (run_after x text).store (sheets.plan (run_after x text).state)
  pub exact : EnteredExactly (run_after x text).state
  pub sheet : (run_after x text).state ≡ sheet_after (start_of x).state (lines_of text)

-- a text of any length, from any beginning: "The list of commands may have any length"
abbrev pub AfterEveryText : Type 0
AfterEveryText = (x : Beginning) (text : List ℕ) → AfterText x text

-- "After an accepted kind 07 each held formula is right, only for the field it sets" (document 02, request 2): of a text whose last line is one, and of
-- the sheet that the text leaves, whose values are told after it (`values_after`, crate `text`)
abbrev pub LastLineExact : Type 0
LastLineExact =
    (x : Beginning) (text : List ℕ) (lines : List (List ℕ)) (line : List ℕ) (f : ℕ) (v : ℤ) → lines_of text ≡ lines ++ (line ∷ [])
    → command_of (frame_of line) ≡ some (entering f v) → is_refusal (line_answer (sheet_after (start_of x).state lines) line).reply ≡ false
    → Exact (sheet_after (start_of x).state lines) (sheet_after (start_of x).state (lines_of text)) f v

-- "a refusal .. leaves links, stay order and setters as they stood" (tender), and formulas and values
abbrev pub RefusedLineUnchanged : Type 0
RefusedLineUnchanged = (s : Sheet) (line : List ℕ) → is_refusal (line_answer s line).reply ≡ true → (line_answer s line).state ≡ s
