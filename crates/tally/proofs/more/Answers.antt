-- `tally::more` meets its contract: by cases on the comparison, which the definition makes too. Assumes nothing.
use borrow.Author.Tests.{lt-ltb, le-ltb}
use Rattle.tally.specs.Tallies.{more}
use Rattle.tally.proofs.more.Goals as goal

pub returns-then-n-lt-CAP : goal.returns-then-n-lt-CAP
unfolding more
returns-then-n-lt-CAP c = simp (lt-ltb _ _ c.if-n-lt-CAP.true)

pub returns-else-n-lt-CAP : goal.returns-else-n-lt-CAP
unfolding more
returns-else-n-lt-CAP c = simp (le-ltb _ _ c.if-n-lt-CAP.false)
