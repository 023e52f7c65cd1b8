use mathlib.Core.Path.{sym, ◌∙◌}
use Rattle.std.proofs.lemmas.List.{take_all}
use Rattle.reversal.proofs.Fields.{fields_none, fields_more}
use Rattle.reversal.proofs.path_fields.Goals as goal

pub loop-f-init : goal.loop-f-init
loop-f-init c = sym (fields_none c.args.path.now)

pub loop-f-preserved : goal.loop-f-preserved
loop-f-preserved c = c.with-set.ensures ∙ fields_more _ c.loop-f.f-index _ _ c.loop-f-test.true c.loop-f.invariant c.from.ensures

pub returns : goal.returns
returns c = rw (take_all _ _ c.loop-f-test.false) at c.loop-f.invariant
