-- `answering::lines_from` meets its contract: what `answer_lines` answers with the buffer's length as room, as a run that goes on (`resumed`).
use Rattle.answering.proofs.Resuming.{resumed}
use Rattle.answering.proofs.lines_from.Goals as goal

pub returns : goal.returns
returns c =
    let a = c.answer_lines.ensures in
    record { ran_from = a.0; resumed = resumed _ _ _ _ _ _ _ _ _ _ _ a.0 a.1 }
