-- `relating::relate` meets its contract: the checks over the numbers of the named link agree with the panel's (`formula_agrees`).
use mathlib.Core.Path.{◌∙◌}
use Rattle.relating.proofs.Replying.{formula_agrees}
use Rattle.relating.proofs.relate.Goals as goal

pub returns : goal.returns
returns c = c.check_formula.ensures ∙ formula_agrees c.args.p.now c.args.named c.args.id c.args.formula c.requires
