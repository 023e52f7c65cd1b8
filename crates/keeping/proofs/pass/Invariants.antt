-- `keeping::pass` meets its contract. The loop's invariant (`Passing`): the entries but for those that are left are right. Each
-- field is worked out (`passing_done`) or passed over (`passing_kept`).
use Rattle.fieldset.specs.Tables.{at}
use Rattle.keeping.proofs.Repairing.{Passing}
use Rattle.keeping.proofs.pass.Given as goal

abbrev pub invariant-loop-f : goal.invariant-loop-f
invariant-loop-f l = Passing (at l.reads) l.n l.set l.left l.f-iterator.rest l.down
