-- `tally::tally_bytes` meets its contract: the bytes of the counts are those that `three_bytes` answers, one by one.
use Rattle.tally.specs.Tallies.{tally_bytes, three_bytes}
use Rattle.tally.proofs.tally_bytes.Goals as goal

pub returns : goal.returns
unfolding tally_bytes three_bytes
returns c = rw (c.three_bytes-lines.ensures, c.three_bytes-accepted.ensures, c.three_bytes-refused.ensures)
