use mathlib.Core.Path.{sym, ◌∙◌}
use Rattle.reversal.proofs.Fields.{reads_next, reads_end}
use Rattle.reversal.proofs.reverse_reads.Goals as goal

pub loop-field-preserved : goal.loop-field-preserved
loop-field-preserved c =
    reads_next _ _ _ c.loop-field.field-index _ _ _ c.loop-field-test.true c.from-f.ensures c.without.ensures c.with-old.ensures ∙ c.loop-field.invariant

pub returns : goal.returns
returns c = sym (reads_end _ _ _ c.loop-field.field-index c.loop-field-test.false) ∙ c.loop-field.invariant
