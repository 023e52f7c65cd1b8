-- `importing::put_flows` meets its contract. The loop's invariant is `Put`: the lines of the first `i` flows are put, behind the opening's.
use Rattle.importing.proofs.Flows.{Put}
use Rattle.importing.proofs.put_flows.Given as goal

abbrev pub invariant-loop-i : goal.invariant-loop-i
invariant-loop-i l = Put l.initial.out l.out l.initial.n l.i l.n
