-- `saving::put_links` meets its contract: the lines of the links below `i` are written.
use Rattle.images.specs.Images.{link_piece}
use Rattle.saving.proofs.Writing.{Growing, lines_to}
use Rattle.saving.proofs.put_links.Given as goal

abbrev pub invariant-loop-i : goal.invariant-loop-i
invariant-loop-i l = Growing (lines_to (link_piece l.links)) 137 l.initial.out l.at l.out l.q l.i
