-- `tables::setter_entry` meets its contract: by cases on whether the number is a link's.
use borrow.Author.Tests.{lt-ltb, le-ltb}
use Rattle.tables.proofs.setter_entry.Goals as goal

pub returns-then-c-lt-STAY : goal.returns-then-c-lt-STAY
returns-then-c-lt-STAY c =
    let t = lt-ltb _ 128 c.if-c-lt-STAY.true in
    record { level = rw t; others = rw t c.without.ensures; reads = rw t c.without-then-c-lt-STAY.ensures }

pub returns-else-c-lt-STAY : goal.returns-else-c-lt-STAY
returns-else-c-lt-STAY c =
    let t = le-ltb _ 128 c.if-c-lt-STAY.false in
    rw c.stay_entry.ensures (record { level = rw t; others = rw t; reads = rw t })
