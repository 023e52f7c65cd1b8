-- `ordering::order` meets its contract. The loop's invariant (`Planning`): the fields listed stand at the start of the buffer, before what was there,
-- and `left` has all others; of these `open` has those that read nothing of what is left, so that its lowest field comes next in the plan. The
-- measure is `left`, which loses that field. `planning_start`, `planning_step` and `planning_end` carry it.
use Rattle.fieldset.specs.Tables.{at}
use Rattle.ordering.proofs.Planning.{Planning}
use Rattle.ordering.proofs.order.Given as goal

abbrev pub invariant-loop-open : goal.invariant-loop-open
invariant-loop-open l = Planning (at l.reads) l.n l.fn.out l.out l.left l.«open» l.count

abbrev pub decreases-loop-open : goal.decreases-loop-open
decreases-loop-open l = l.left
