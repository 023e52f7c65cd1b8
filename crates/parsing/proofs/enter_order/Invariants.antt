-- `parsing::enter_order` meets its contract: the first `k` fields have their places.
use Rattle.parsing.proofs.Entries.{Placing}
use Rattle.parsing.proofs.enter_order.Given as goal

abbrev pub invariant-loop-k : goal.invariant-loop-k
invariant-loop-k l = Placing l.line l.initial.place l.place l.n l.k
