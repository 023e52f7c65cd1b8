-- `saving::put_value` meets its contract: nothing of zero (`wrote_none`), and the line of any other value.
use borrow.Author.Rules.{rules}
use Rattle.saving.proofs.Writing.{value_written, four_bytes_are}
use Rattle.saving.proofs.put_value.Goals as goal

pub returns : goal.returns
returns c =
    let e = four_bytes_are c.args.bits c.ranges.bits.fits c.to_be_bytes.ensures in
    value_written _ _ _ _ _ _ (search rules) (rw e at c.put_line.ensures.out_after, rw e at c.put_line.ensures.value)
