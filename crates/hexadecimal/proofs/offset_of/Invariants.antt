-- `hexadecimal::offset_of` meets its contract. The loop's invariant is `Read`: the characters from `i` on decide the offset. A digit takes the loop a
-- character on (`read_more`); at another character (`read_other`) and at the end of the line (`read_end`) `i` is the offset. Assumes nothing.
use Rattle.hexadecimal.proofs.Offsets.{Read}
use Rattle.hexadecimal.proofs.offset_of.Given as goal

abbrev pub invariant-loop-i : goal.invariant-loop-i
invariant-loop-i l = Read l.s l.i
