-- `strength::top_of` meets its contract. The loop's invariant is `Topping`: `most` is the greatest strength of the fields that are done. A round takes
-- the lowest field that is left (`top_step`); at the end all are done (`top_end`).
use Rattle.fieldset.specs.Tables.{at}
use Rattle.strength.proofs.Maxima.{Topping}
use Rattle.strength.proofs.top_of.Given as goal

abbrev pub invariant-loop-u : goal.invariant-loop-u
invariant-loop-u l = Topping (at l.table) l.set 0 l.most l.u-iterator.rest
