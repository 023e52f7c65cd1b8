-- `strength::path_from` meets its contract. The walk keeps `Way`: the fields before the position stand in the buffer, and the path goes on from the
-- field at hand; its measure is the room that is left. The scan of the other outputs keeps `Scan`: the field sought is among those that are left,
-- which are its measure.
use Prim.Native.Nat.{◌-◌}
use Rattle.strength.proofs.Way.{Way, Scan}
use Rattle.strength.proofs.path_from.Given as goal

abbrev pub invariant-loop-at : goal.invariant-loop-at
invariant-loop-at l = Scan l.table l.s l.initial.rest l.rest

abbrev pub decreases-loop-at : goal.decreases-loop-at
decreases-loop-at l = l.rest

abbrev pub invariant-walk : goal.invariant-walk
invariant-walk l = Way l.levels l.others l.n l.known l.v l.s l.initial.path l.path l.at l.i

abbrev pub decreases-walk : goal.decreases-walk
decreases-walk l = l.n - l.i
