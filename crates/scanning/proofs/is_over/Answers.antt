use mathlib.Core.Path.{sym}
use Rattle.scanning.proofs.Over.{over_start, over_step, over_found, over_end}
use Rattle.scanning.proofs.is_over.Goals as goal

pub loop-f-init : goal.loop-f-init
loop-f-init c = rw (c.into_iter-f-iterator.ensures.into_iter_gives, c.fields_of-f-items.ensures) over_start

pub returns-then-level-table : goal.returns-then-level-table
returns-then-level-table c = sym (over_found c.loop-f.invariant c.in-Some.ensures.steps.0 c.if-level-table.true)

pub loop-f-preserved : goal.loop-f-preserved
loop-f-preserved c = over_step c.loop-f.invariant c.in-Some.ensures.steps.0 c.if-level-table.false c.in-Some.ensures.steps.1

pub returns : goal.returns
returns c = sym (over_end c.loop-f.invariant c.in-None.ensures.steps.0)
