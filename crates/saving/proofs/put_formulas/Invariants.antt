-- `saving::put_formulas` meets its contract: the lines of the formulas of the links below `i` are written.
use Rattle.images.specs.Images.{formula_piece}
use Rattle.saving.proofs.Writing.{Growing, lines_to}
use Rattle.saving.proofs.put_formulas.Given as goal

abbrev pub invariant-loop-i : goal.invariant-loop-i
invariant-loop-i l = Growing (lines_to (formula_piece l.formulas)) 15 l.initial.out l.at l.out l.q l.i
