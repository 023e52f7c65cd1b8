-- `values::sum` meets its contract. The loop's invariant (`Summing`): what is added and what is left make the whole, and so no step leaves 64 bits. A
-- round adds the value of the lowest field that is left (`summing_step`).
use Rattle.values.specs.Limits.{value_at}
use Rattle.values.proofs.Sums.{Summing}
use Rattle.values.proofs.sum.Given as goal

abbrev pub invariant-loop-f : goal.invariant-loop-f
invariant-loop-f l = Summing (value_at l.values) l.set l.s l.f-iterator.rest
