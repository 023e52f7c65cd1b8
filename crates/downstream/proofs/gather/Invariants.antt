-- `downstream::gather` meets its contract. The loop's invariant (`Gathering`): the set with the entries of its fields, but for those that are left.
use Rattle.fieldset.specs.Tables.{at}
use Rattle.downstream.proofs.Gathering.{Gathering}
use Rattle.downstream.proofs.gather.Given as goal

abbrev pub invariant-loop-f : goal.invariant-loop-f
invariant-loop-f l = Gathering (at l.down) l.set l.out l.f-iterator.rest
