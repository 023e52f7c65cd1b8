-- `writing::put_bytes` meets its contract. Where all digits fit, by `put_all`'s. Else the loop's invariant (`Written`): the digits of the first i
-- bytes are written as far as they fit.
use Rattle.writing.proofs.Lines.{Written}
use Rattle.writing.proofs.put_bytes.Given as goal

abbrev pub invariant-loop-i : goal.invariant-loop-i
invariant-loop-i l = Written l.bytes l.initial.out l.out l.at l.i
