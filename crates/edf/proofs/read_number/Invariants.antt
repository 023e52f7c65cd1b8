-- `edf::read_number` meets its contract. The loop's invariant is `Digits`: the characters before the index are digits and write `n`. It ends at another
-- character or at the end of the field, trailing spaces dropped.
use Rattle.edf.proofs.Numbers.{Digits}
use Rattle.edf.proofs.read_number.Given as goal

abbrev pub invariant-loop-c : goal.invariant-loop-c
invariant-loop-c l = Digits l.digits l.c-index l.n
