-- `scanning::is_over` meets its contract. The loop's invariant (`NoneOver`): the fields of the set that are done have no entry above the level.
use Rattle.scanning.proofs.Over.{NoneOver}
use Rattle.scanning.proofs.is_over.Given as goal

abbrev pub invariant-loop-f : goal.invariant-loop-f
invariant-loop-f l = NoneOver l.table l.level l.set l.f-iterator.rest
