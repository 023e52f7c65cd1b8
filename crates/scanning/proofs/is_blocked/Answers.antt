-- `scanning::is_blocked` meets its contract: of a link that waits, by cases on whether it is in use (`link_waits`, `link_unused`); the check finds the
-- case of one that holds.
use mathlib.Core.Path.{◌∙◌}
use Rattle.scanning.proofs.Over.{link_unused, link_waits}
use Rattle.scanning.proofs.is_blocked.Goals as goal

pub returns-then-l : goal.returns-then-l
returns-then-l c = link_waits c.args.table.now c.args.l c.is_over.result c.if-l.true c.in-Waiting.is c.is_over.ensures

pub returns-else-l : goal.returns-else-l
returns-else-l c = c.if-l.false ∙ link_unused c.args.table.now c.args.l c.if-l.false
