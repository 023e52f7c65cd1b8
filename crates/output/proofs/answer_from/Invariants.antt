-- `output::answer_from` meets its contract. The loop keeps `Sent`: behind the bytes that are passed on stands the output from where the run stands; its
-- measure is what is left of the text. Each part that is passed on is the next one of the output (`is_part`, `put_part`), and the last one ends it
-- (`sent_all`). Assumes nothing.
use Prim.Native.Nat.{◌-◌}
use lib.ListN.{length}
use Rattle.sheet.specs.Legal.{LegalSheet}
use Rattle.frames.specs.Frames.{line_answer}
use Rattle.output.proofs.Sending.{Sent}
use Rattle.output.proofs.answer_from.Given as goal

abbrev pub invariant-loop-next : goal.invariant-loop-next
invariant-loop-next g l = Sent line_answer LegalSheet l.first l.text l.out l.sent l.next l.s l.t

abbrev pub decreases-loop-next : goal.decreases-loop-next
decreases-loop-next g l = length l.text - l.next
