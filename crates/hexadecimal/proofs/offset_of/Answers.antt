use mathlib.Core.Path.{sym, ◌∙◌}
use Rattle.hexadecimal.proofs.Digits.{is_some_read}
use Rattle.hexadecimal.proofs.Offsets.{read_more, read_other, read_end}
use Rattle.hexadecimal.proofs.offset_of.Goals as goal

pub returns-then-is_none : goal.returns-then-is_none
returns-then-is_none c =
    read_other _ _ c.loop-i.invariant c.loop-i-test.true (sym (is_some_read _ _ c.digit_of.ensures) ∙ c.if-is_none.ensures)

pub loop-i-preserved : goal.loop-i-preserved
loop-i-preserved c =
    read_more _ _ c.loop-i.invariant c.loop-i-test.true (sym (is_some_read _ _ c.digit_of.ensures) ∙ c.if-is_none.ensures)

pub returns : goal.returns
returns c = read_end _ _ c.loop-i.invariant c.loop-i-test.false
