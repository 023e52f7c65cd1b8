-- Sheets as a system of lists of commands, kinds 06 to 08 among them (document 02, requests 2 and 5), and the formulas that commands give.
use Rattle.std.specs.Prelude.{ℕ, cond, List, [], ◌∷◌, eqb, None}
use Rattle.std.proofs.Math.Option.{Option, none, some}
use Rattle.panel.specs.Answers.{is_refusal}
use Rattle.panel.specs.Commands.{opening, adding, removing, touching, planning, changing, covered_in}
use Rattle.formulas.specs.Formulas.{Rule}
use Rattle.sheet.specs.declared.Sheet.{Sheet}
use Rattle.sheet.specs.Sheets.{unopened}
use Rattle.sheet.specs.Commands.{Command, solving, entering, relating, performed}
use Rattle.optimality.specs.Condition3 as store
use Rattle.optimality.specs.Condition3.{Entry, Store, empty, System, Run, stepped}

-- what a command that is not refused changes in the store: kind 07 "touches f", kind 08 enters and strikes out nothing
abbrev pub entered : Store → Command → Store
entered b (solving c) = store.entered b c
entered b (entering f v) = store.entered b (touching f)
entered b (relating id formula) = b

abbrev pub sheets : System
sheets =
    record {
      State = Sheet;
      Command = Command;
      step = λ s c. (performed s c).sheet;
      reply = λ s c. (performed s c).reply;
      plan = λ s. (performed s (solving planning)).reply;
      entered = entered;
    }

abbrev pub start : Run sheets
start = record { state = unopened; store = empty }

-- ---- formulas

-- the fields that a link of the store covers
abbrev pub covered_of : Option Entry → ℕ
covered_of none = 0
covered_of (some e) = e.covered

-- another formula at a number
abbrev pub giving : (ℕ → Rule) → ℕ → Rule → ℕ → Rule
giving given id formula = λ k. cond (eqb k id) formula (given k)

-- the formula of each number, as the commands that were not refused gave it: "A new formula replaces the old, and removal drops it"; of a change, "its
-- formula kept if the covered fields are the same, else dropped" (document 02, request 5)
abbrev pub gives : Store → (ℕ → Rule) → Command → ℕ → Rule
gives b given (solving (opening n)) = given
gives b given (solving (adding id level bytes)) = given
gives b given (solving (removing id)) = giving given id None
gives b given (solving (touching f)) = given
gives b given (solving planning) = given
gives b given (solving (changing id level bytes)) = cond (eqb (covered_of (b.links id)) (covered_in bytes)) given (giving given id None)
gives b given (entering f v) = given
gives b given (relating id formula) = giving given id formula

-- from a run on: a refused command gives nothing
unfoldable pub given_after : Run sheets → (ℕ → Rule) → List Command → ℕ → Rule
given_after r given [] = given
given_after r given (c ∷ cs) =
    given_after (stepped sheets r c) (cond (is_refusal (sheets.reply r.state c)) given (gives r.store given c)) cs
