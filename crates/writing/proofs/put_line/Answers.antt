-- `writing::put_line` meets its contract: two bytes, the further ones and LF, each behind what was written before, are the line (`line_put`).
use Rattle.writing.proofs.Lines.{line_put}
use Rattle.writing.proofs.put_line.Goals as goal

pub returns : goal.returns
returns c =
    let h = line_put _ _ _ _ _ _ _ _ _ c.put.ensures c.put-2.ensures c.put_bytes.ensures c.store.ensures in
    record { out_after = h.0; value = h.1 }
