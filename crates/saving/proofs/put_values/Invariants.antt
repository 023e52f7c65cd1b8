-- `saving::put_values` meets its contract: the lines of the values of the fields below `f` are written.
use Rattle.images.specs.Images.{value_piece}
use Rattle.saving.proofs.Writing.{Growing, lines_to}
use Rattle.saving.proofs.put_values.Given as goal

abbrev pub invariant-loop-f : goal.invariant-loop-f
invariant-loop-f l = Growing (lines_to (value_piece l.values)) 13 l.initial.out l.at l.out l.q l.f
