-- `strength::tied` meets its contract. The loop's invariant is `Filtering`: of the fields that are done, `ties` has those at the strength s. A round
-- takes the lowest field that is left (`filter_step`), by cases on its strength.
use lib.Dec.{eqb}
use Rattle.fieldset.specs.Tables.{at}
use Rattle.fieldset.proofs.Emptying.{Filtering}
use Rattle.strength.proofs.tied.Given as goal

abbrev pub invariant-loop-u : goal.invariant-loop-u
invariant-loop-u l = Filtering (λ u. eqb (at l.table u) l.s) l.set l.ties l.u-iterator.rest
