-- `saving::put_fields` meets its contract: the bytes of the fields below `f` are written.
use Rattle.images.specs.Images.{field_piece}
use Rattle.saving.proofs.Writing.{Growing, digits_to}
use Rattle.saving.proofs.put_fields.Given as goal

abbrev pub invariant-loop-f : goal.invariant-loop-f
invariant-loop-f l = Growing (digits_to (field_piece l.covered l.outputs)) 2 l.initial.out l.at l.out l.q l.f
