-- `keeping::reread` meets its contract. The loop's invariant (`Rereading`): the new reads are shown of the changed fields, but for those that are
-- left, and the readers are by what is shown.
use Rattle.keeping.proofs.Renewing.{Rereading}
use Rattle.keeping.proofs.reread.Given as goal

abbrev pub invariant-loop-c : goal.invariant-loop-c
invariant-loop-c l = Rereading l.reads l.n l.changed l.initial.shown l.shown l.readers l.c-iterator.rest
