-- `text::run_from` meets its contract: a text that is too long changes nothing (`too_long`); of any other all lines are answered, since there is
-- room for a longest reply to each, and the tally's line stands behind their replies (`whole_text`).
use mathlib.Core.Path.{◌≡◌, refl, sym, ◌∙◌}
use mathlib.Core.Bool.{false}
use borrow.Author.Tests.{ltb-false}
use lib.ListN.{length}
use native.Mathlib.Omega.{arith}
use Prim.Native.Nat.{◌*◌}
use Rattle.frames.specs.Texts.{text_limit, is_too_long}
use Rattle.frames.specs.Frames.{line_answer}
use Rattle.lines.proofs.Lines.{lines_few}
use Rattle.replies.specs.Replies.{longest}
use Rattle.text.proofs.Whole.{tally_length_lem, too_long, whole_text}
use Rattle.text.proofs.run_from.Goals as goal

pub returns-then-is_too_long : goal.returns-then-is_too_long
returns-then-is_too_long c =
    let s = c.args in
    record { told = too_long line_answer s.text.now s.out.now s.s s.t.now (sym c.is_too_long.ensures ∙ c.if-is_too_long.true); bounded = tt }

pub answer_lines-r-requires : goal.answer_lines-r-requires
answer_lines-r-requires c = (c.requires, omega arith)

pub returns : goal.returns
returns c =
    let s = c.args in
    let short : is_too_long s.text.now ≡ false = sym c.is_too_long.ensures ∙ c.if-is_too_long.false in
    let t = c.put_tally.ensures in
    record {
      told = whole_text _ _ s.text.now s.out.now _ _ s.t.now _ _ _ s.s _ (longest * text_limit) refl c.answer_lines-r.ensures.0
          c.answer_lines-r.ensures.1 (omega (arith, lines_few s.text.now, ltb-false text_limit (length s.text.now) short)) t.out_after t.value short;
      bounded = omega (arith, t.value, tally_length_lem c.answer_lines-r.result.tally, c.answer_lines-r.ensures.1.fits);
    }
