use mathlib.Core.Path.{refl}
use native.Mathlib.Omega.{arith}
use Rattle.ordering.proofs.Planning.{planning_start, planning_step, planning_end, planning_room, planning_falls}
use Rattle.ordering.proofs.order.Goals as goal

pub loop-open-init : goal.loop-open-init
loop-open-init c = planning_start c.requires.0.few c.below-left.ensures c.ready-open.ensures

pub bounds-out-count : goal.bounds-out-count
bounds-out-count c =
    let among = c.requires.0 in
    omega (arith, among.few, planning_room among c.loop-open.invariant c.first-f.ensures)

pub loop-open-smaller : goal.loop-open-smaller
loop-open-smaller c = rw c.without-left.ensures (planning_falls c.requires.0 c.loop-open.invariant c.first-f.ensures)

pub loop-open-preserved : goal.loop-open-preserved
loop-open-preserved c =
    planning_step c.requires.0 c.loop-open.invariant c.first-f.ensures c.readers_of-readers.ensures
    c.ready.ensures c.requires.1
    c.without-left.ensures c.without_lowest.ensures c.union-open.ensures refl

pub returns : goal.returns
returns c = planning_end c.requires.0 c.loop-open.invariant c.loop-open-test.false
