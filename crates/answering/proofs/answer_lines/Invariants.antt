-- `answering::answer_lines` meets its contract. The loop keeps `Going`: the lines that are done, and what the code then holds; its measure is what
-- is left of the text. What one line does is a law for any answer to a line (`line_done`), which asks that the step of the line gives its answer
-- (`did`); that the panel has taken the step, and that the tables are its own again, are the laws of `taking`. The loop ends with the text
-- (`finish_end`) or where no longest reply fits any more (`finish_full`).
use mathlib.Core.Path.{◌≡◌}
use Prim.Native.Nat.{◌-◌}
use lib.ListN.{length}
use Rattle.sheet.specs.Sheets.{sheet_of}
use Rattle.sheet.specs.Legal.{LegalSheet}
use Rattle.tables.specs.Tables.{TablesOf}
use Rattle.keeping.specs.Keeping.{Kept}
use Rattle.frames.specs.Frames.{line_answer}
use Rattle.panel.specs.Answers.{rows_length}
use Rattle.answering.specs.Scans.{line_scan}
use Rattle.answering.proofs.Going.{Going}
use Rattle.answering.proofs.answer_lines.Given as goal

abbrev pub invariant-loop-at : goal.invariant-loop-at
invariant-loop-at l = (length l.rows ≡ rows_length) × (length l.path ≡ 64) × TablesOf l.q l.tables
    × Going line_answer line_scan LegalSheet l.text l.initial.at l.room (sheet_of l.initial.q l.initial.formulas l.initial.values) l.initial.t l.initial.out l.out (record { next = l.at; state = sheet_of l.q l.formulas l.values; tally = l.t; written = l.n; worked = l.worked })
    × (l.kept.shown ≡ l.tables.reads) × Kept l.q.size l.tables.reads l.kept.readers l.kept.down

abbrev pub decreases-loop-at : goal.decreases-loop-at
decreases-loop-at l = length l.text - l.at
