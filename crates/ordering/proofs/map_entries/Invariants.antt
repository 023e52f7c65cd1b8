-- `ordering::map_entries` meets its contract. The loop's invariant (`Mapping`): the entries of the set are changed but for those that are left.
-- `mapping_step` takes the lowest field that is left.
use Rattle.ordering.proofs.Readers.{Mapping}
use Rattle.ordering.proofs.map_entries.Given as goal

abbrev pub invariant-loop-g : goal.invariant-loop-g
invariant-loop-g g l = Mapping (goal.F-post g l.put) l.set l.initial.table l.table l.g-iterator.rest
