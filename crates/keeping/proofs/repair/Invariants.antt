-- `keeping::repair` meets its contract. The loop's invariant: the entries but for those that are left are right; the measure is what is left, since
-- without a loop each pass works out one entry at least (`repaired_less`).
use Prim.Native.Nat.{◌^◌, ◌<◌}
use Rattle.fieldset.specs.Tables.{at}
use Rattle.keeping.specs.Keeping.{Right}
use Rattle.keeping.proofs.repair.Given as goal

abbrev pub invariant-loop-left : goal.invariant-loop-left
invariant-loop-left l = (l.left < 2 ^ 64) × Right (at l.reads) l.n l.left l.down

abbrev pub decreases-loop-left : goal.decreases-loop-left
decreases-loop-left l = l.left
