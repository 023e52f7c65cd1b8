use native.Mathlib.Omega.{arith}
use Rattle.strength.proofs.Maxima.{top_step, top_end}
use Rattle.strength.proofs.top_of.Goals as goal

pub loop-u-preserved : goal.loop-u-preserved
loop-u-preserved c = top_step c.loop-u.invariant c.in-Some.ensures.steps.0 c.max-most.ensures c.in-Some.ensures.steps.1

pub returns : goal.returns
returns c = omega (arith, top_end c.loop-u.invariant c.in-None.ensures.steps.0)
