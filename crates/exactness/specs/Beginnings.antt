-- Where runs begin: at an unopened panel, or at a saved text that was taken in. Quotations are of document 02, request 7, or of document 01 where that
-- is said.
use Rattle.std.specs.Prelude.{ℕ, ◌≡◌, false, cond, List, map, eqb, drop, None}
use Rattle.std.proofs.Math.Option.{some}
use Rattle.fieldset.specs.Tables.{at}
use Rattle.panel.specs.Answers.{is_refusal}
use Rattle.formulas.specs.Formulas.{Rule}
use Rattle.sheet.specs.Sheets.{unopened}
use Rattle.sheet.specs.Commands.{Command}
use Rattle.optimality.specs.Condition3.{Store, empty, entry, new_entry, Run, after, AfterEveryList}
use Rattle.lines.specs.Lines.{lines_of}
use Rattle.frames.specs.Frames.{formula_in}
use Rattle.images.specs.Entries.{folded, line_bytes}
use Rattle.images.specs.Reading.{read}
use Rattle.exactness.specs.Systems.{sheets, start, giving, given_after}

-- ---- what the lines of a text say: nothing here comes from the panel that was read

-- a text "whose book starts not empty but with the stays in the order of the text's 0B line and the links of its 0C lines, their standings left out":
-- 0B and the fields; 0C id level standing and the field bytes
abbrev pub line_store : Store → List ℕ → Store
line_store b line =
    cond (eqb (at line 0) 0x0B) (record { stays = drop 1 line; links = b.links })
    (cond (eqb (at line 0) 0x0C) (entry b (at line 1) (some (new_entry (at line 2) (drop 4 line))))
    b)

unfoldable pub store_of : List ℕ → Store
store_of text = folded line_store empty (map line_bytes (lines_of text))

-- "formulas as 08 frames": 08 id and the formula
abbrev pub line_gives : (ℕ → Rule) → List ℕ → ℕ → Rule
line_gives given line = cond (eqb (at line 0) 0x08) (giving given (at line 1) (formula_in (drop 2 line))) given

unfoldable pub formulas_of : List ℕ → ℕ → Rule
formulas_of text = folded line_gives (λ i. None) (map line_bytes (lines_of text))

-- ---- beginnings

pub data Beginning : Type 0 where
  -- "Its first command meets an unopened panel" (document 01)
  from_unopened : Beginning
  -- or the panel of "a text taken in"
  from_text : (text : List ℕ) → is_refusal (read unopened text).reply ≡ false → Beginning

-- sheet and store at a beginning
abbrev pub start_of : Beginning → Run sheets
start_of from_unopened = start
start_of (from_text text taken) = record { state = (read unopened text).sheet; store = store_of text }

-- the formulas given there
abbrev pub given_of : Beginning → ℕ → Rule
given_of from_unopened = λ i. None
given_of (from_text text taken) = formulas_of text

-- ---- what holds after every list of commands from every beginning

abbrev pub AfterEveryRun : (Run sheets → Type 0) → Type 0
AfterEveryRun P = (x : Beginning) → AfterEveryList sheets (start_of x) P

-- the same with the formulas given until then
abbrev pub AfterEveryGiven : (Run sheets → (ℕ → Rule) → Type 0) → Type 0
AfterEveryGiven P =
    (x : Beginning) (commands : List Command) → P (after sheets (start_of x) commands) (given_after (start_of x) (given_of x) commands)
