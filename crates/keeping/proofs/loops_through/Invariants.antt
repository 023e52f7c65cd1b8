-- `keeping::loops_through` meets its contract. The loop's invariant (`Searching`): no loop goes through a changed field, but for those that
-- are left.
use Rattle.fieldset.specs.Tables.{at}
use Rattle.keeping.proofs.Searching.{Searching}
use Rattle.keeping.proofs.loops_through.Given as goal

abbrev pub invariant-loop-c : goal.invariant-loop-c
invariant-loop-c l = Searching (at l.reads) l.n l.changed l.c-iterator.rest
