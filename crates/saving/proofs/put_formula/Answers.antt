-- `saving::put_formula` meets its contract, by cases on the formula.
use mathlib.Core.Path.{ap, ◌∙◌}
use Rattle.std.specs.Prelude.{Some}
use Rattle.saving.proofs.Writing.{formula_none, formula_ratio, formula_sum}
use Rattle.saving.proofs.put_formula.Goals as goal

pub returns-in-None : goal.returns-in-None
returns-in-None c = formula_none _ _ _ c.in-None.is

pub returns-in-Some-Ratio : goal.returns-in-Some-Ratio
returns-in-Some-Ratio c =
    let k = c.in-Some-Ratio in
    formula_ratio _ _ _ _ _ (k.is ∙ ap Some (rw k.is at k.field-0-is)) (c.put_line.ensures.out_after, c.put_line.ensures.value)

pub returns-in-Some-Sum : goal.returns-in-Some-Sum
returns-in-Some-Sum c =
    let k = c.in-Some-Sum in
    formula_sum _ _ _ _ _ (k.is ∙ ap Some (rw k.is at k.field-0-is)) (c.put_line-in-Some-Sum.ensures.out_after, c.put_line-in-Some-Sum.ensures.value)
