-- `evaluation::evaluate` meets its contract. The loop's invariant (`Running`): the run over the fields that are left, from the values as they stand, is
-- the whole run. In a round the setter's formula is found (`formed`) and computed with (`outcome`).
use Rattle.fieldset.specs.Tables.{at}
use Rattle.formulas.specs.Formulas.{formula_of}
use Rattle.evaluation.proofs.Running.{Running}
use Rattle.evaluation.proofs.evaluate.Given as goal

abbrev pub invariant-loop-i : goal.invariant-loop-i
invariant-loop-i l = Running (formula_of l.formulas l.setter) (at l.reads) l.order l.n l.initial.values l.values l.i
