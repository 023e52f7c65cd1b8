-- `lines::behind` meets its contract: by cases on whether the line ends before the text.
use borrow.Author.Tests.{lt-ltb, le-ltb}
use Rattle.lines.specs.Lines.{behind_of}
use Rattle.lines.proofs.behind.Goals as goal

pub returns-then-end-text : goal.returns-then-end-text
unfolding behind_of
returns-then-end-text c = simp (lt-ltb _ _ c.if-end-text.true)

pub returns-else-end-text : goal.returns-else-end-text
unfolding behind_of
returns-else-end-text c = simp (le-ltb _ _ c.if-end-text.false)
