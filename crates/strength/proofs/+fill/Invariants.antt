-- `strength::fill` meets its contract. The measure of a call is its depth; the loop keeps `Gather`. A round finds its field known (`one_known`), or
-- stores its strength from the other outputs of its setter (`one_filled`), which are known or are filled in by a call first. The count grows by as many
-- fields as the table has more.
use Rattle.strength.proofs.Gather.{Gather}
use Rattle.strength.proofs.+fill.Given as goal

abbrev pub decreases-fill : goal.decreases-fill
decreases-fill l = l.depth

abbrev pub invariant-loop-u : goal.invariant-loop-u
invariant-loop-u l = Gather l.levels l.others l.known l.set l.initial.table l.table l.u-iterator.rest l.k l.top l.count
