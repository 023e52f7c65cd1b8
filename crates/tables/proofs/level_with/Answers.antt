-- `tables::level_with` meets its contract: by cases on whether the number is a link's.
use borrow.Author.Tests.{lt-ltb, le-ltb}
use Rattle.tables.proofs.level_with.Goals as goal

pub returns-then-c-lt-STAY : goal.returns-then-c-lt-STAY
returns-then-c-lt-STAY c = rw (lt-ltb _ 128 c.if-c-lt-STAY.true)

pub returns-else-c-lt-STAY : goal.returns-else-c-lt-STAY
returns-else-c-lt-STAY c = rw (le-ltb _ 128 c.if-c-lt-STAY.false)
