-- `text::sheet_after` meets its contract: all lines are answered, since there is room for a longest reply to each, so the sheet is the one after the text
-- (`state_done`).
use borrow.Author.Tests.{ltb-false}
use lib.ListN.{length}
use native.Mathlib.Omega.{arith}
use Prim.Native.Nat.{◌*◌}
use Rattle.sheet.specs.Sheets.{unopened}
use Rattle.sheet.specs.Legal.{LegalSheet}
use Rattle.lines.proofs.Lines.{lines_few}
use Rattle.frames.specs.Texts.{text_limit}
use Rattle.frames.specs.Frames.{line_answer}
use Rattle.replies.specs.Replies.{longest}
use Rattle.text.proofs.Whole.{state_done}
use Rattle.text.proofs.sheet_after.Goals as goal

pub answer_lines-requires : goal.answer_lines-requires
answer_lines-requires c = (c.unopened.ensures.1, omega arith)

pub returns : goal.returns
returns c =
    let text = c.args.text.now in (
      state_done line_answer LegalSheet text _ _ _ _ _ unopened _ (longest * text_limit) c.unopened.ensures.0 c.answer_lines.ensures.0
          c.answer_lines.ensures.1 (omega (arith, lines_few text, ltb-false text_limit (length text) c.requires)),
      c.answer_lines.ensures.0.legal,
    )
