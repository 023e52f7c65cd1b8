-- `hexadecimal::fill` meets its contract. The loop's invariant is `Filled`: the first `i` bytes are in the buffer. A round stores one byte more
-- (`filled_more`); the loop ends with the line or with a full buffer, past which no store counts (`filled_all`). Assumes nothing.
use Rattle.hexadecimal.proofs.Lines.{Filled}
use Rattle.hexadecimal.proofs.fill.Given as goal

abbrev pub invariant-loop-i : goal.invariant-loop-i
invariant-loop-i l = Filled l.s l.initial.frame l.frame l.i
