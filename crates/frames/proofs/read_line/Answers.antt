-- `frames::read_line` meets its contract: a line that is refused by `decode` leaves the buffer as it was, and its offset is told (`read_bad`); of any
-- other the kept bytes give the command (`read_good`). Assumes nothing.
use Rattle.frames.proofs.Reading.{read_bad, read_good}
use Rattle.frames.proofs.read_line.Goals as goal

pub returns-in-Err : goal.returns-in-Err
returns-in-Err c =
    let told = c.in-Err.ensures in
    read_bad _ _ told.frame_after c.in-Err.field-0 told.result_value _ c.two_byte_offset.ensures

pub returns-in-Ok : goal.returns-in-Ok
returns-in-Ok c =
    let told = c.in-Ok.ensures in
    read_good _ _ told.frame_after c.in-Ok.n told.result_value _ c.min-len.ensures _ c.read_frame.ensures
