-- `fitness::lacks` meets its contract: by cases on the standing and on whether the link is in use.
use mathlib.Core.Path.{◌∙◌}
use Rattle.fitness.proofs.Fitting.{waiting_lacks, unused_lacks}
use Rattle.fitness.proofs.lacks.Goals as goal

pub returns-then-l : goal.returns-then-l
returns-then-l c = waiting_lacks c.args.l.now c.in-Waiting.is c.if-l.true

pub returns-else-l : goal.returns-else-l
returns-else-l c = c.if-l.false ∙ unused_lacks c.args.l.now c.if-l.false
