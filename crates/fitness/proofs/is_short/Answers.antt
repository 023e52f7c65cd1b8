use mathlib.Core.Path.{sym, ◌∙◌}
use native.Mathlib.Omega.{arith}
use Rattle.fitness.proofs.Fitting.{short_found, short_none}
use Rattle.fitness.proofs.is_short.Goals as goal

pub returns-then-lacks : goal.returns-then-lacks
returns-then-lacks c = short_found c.args.p.now c.loop-l.l-index (omega arith) (sym c.lacks.ensures ∙ c.if-lacks.true)

pub returns : goal.returns
returns c = short_none c.args.p.now (λ i l. c.loop-l.invariant i (omega arith))
