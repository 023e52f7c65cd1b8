-- `keeping::upstream` meets its contract. The loop's invariant (`Climbing`): the fields that are seen and those that are yet to be looked at are
-- upstream and apart; the measure is how many are not seen.
use Rattle.fieldset.specs.Numbers.{count}
use Rattle.fieldset.specs.Tables.{at}
use Rattle.ordering.proofs.Plan.{unlisted?}
use Rattle.keeping.proofs.Climbing.{Climbing}
use Rattle.keeping.proofs.upstream.Given as goal

abbrev pub invariant-loop-rest : goal.invariant-loop-rest
invariant-loop-rest l = Climbing (at l.reads) l.n l.set l.seen l.rest

abbrev pub decreases-loop-rest : goal.decreases-loop-rest
decreases-loop-rest l = count (unlisted? l.seen) 64
