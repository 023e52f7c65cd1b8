-- `writing::put_all` meets its contract. The loop's invariant (`Written`): the digits of the first i bytes are written. The buffer keeps its length,
-- so that every store is inside.
use Rattle.writing.proofs.Lines.{Written}
use Rattle.writing.proofs.put_all.Given as goal

abbrev pub invariant-loop-i : goal.invariant-loop-i
invariant-loop-i l = Written l.bytes l.initial.out l.out l.at l.i
