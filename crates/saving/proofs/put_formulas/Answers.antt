use Rattle.saving.proofs.Writing.{growing_none, lines_none, lines_on, formula_short}
use Rattle.saving.proofs.put_formulas.Goals as goal

pub loop-i-init : goal.loop-i-init
loop-i-init c = growing_none _ _ _ _ (lines_none _)

pub loop-i-preserved : goal.loop-i-preserved
loop-i-preserved c = lines_on _ (formula_short c.args.formulas.now) c.loop-i.invariant c.put_formula-q.ensures
