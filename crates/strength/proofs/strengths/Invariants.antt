-- `strength::strengths` meets its contract. The loop's invariant is `Begun`: of the fields looked at, those are known whose setters have no other
-- output. With these known, `fill` is asked for the others (`rest_asks`), and leaves the strengths of all fields below n (`listed`), each counted once
-- (`all_counted`).
use Rattle.strength.proofs.Gather.{Begun}
use Rattle.strength.proofs.strengths.Given as goal

abbrev pub invariant-loop-v : goal.invariant-loop-v
invariant-loop-v l = Begun l.levels l.others l.initial.table l.table l.v l.known l.count
