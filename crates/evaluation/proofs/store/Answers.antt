-- `evaluation::store` meets its contract: the plan stands in the buffer (`listed_plan`) and can be run (`listed_runnable`).
use lib.ListN.{set}
use mir.Facts.{to_z-of_z}
use Rattle.fieldset.specs.Tables.{at}
use Rattle.ordering.specs.Order.{order}
use Rattle.formulas.specs.Formulas.{formula_of}
use Rattle.evaluation.specs.Runs.{run, Ran}
use Rattle.evaluation.proofs.Planned.{listed_plan, listed_runnable, run_stored, run_dropped}
use Rattle.evaluation.proofs.store.Goals as goal
use Rattle.evaluation.proofs.store.Goals.{After-evaluate-fits}

pub evaluate-fits-requires : goal.evaluate-fits-requires
evaluate-fits-requires c = listed_runnable c.requires.0 _ _ _ c.order-count.ensures.0 c.order-count.ensures.1

-- what the run over the buffer's fields gives is what the run over the plan gives
ran : (c : After-evaluate-fits) → let s = c.args in Ran (run (formula_of s.formulas.now s.setter.now) (at s.reads.now) (order (at s.reads.now) s.n) (set s.values.now s.f s.value)) c.evaluate-fits.result c.evaluate-fits.new.values
ran c =
    rw (← listed_plan c.requires.0 _ _ _ c.order-count.ensures.0 c.order-count.ensures.1) (rw (to_z-of_z c.ranges.value) at c.evaluate-fits.ensures)

pub returns-then-fits : goal.returns-then-fits
returns-then-fits c = run_stored _ (ran (goal.at.returns-then-fits c).After-evaluate-fits) c.if-fits.true

pub returns-else-fits : goal.returns-else-fits
returns-else-fits c = run_dropped _ (ran (goal.at.returns-else-fits c).After-evaluate-fits) c.if-fits.false
