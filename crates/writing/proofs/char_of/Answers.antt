-- `writing::char_of` meets its contract: by cases on whether the value is below ten.
use borrow.Author.Tests.{lt-ltb, le-ltb}
use Rattle.hexadecimal.specs.Hex.{char_of}
use Rattle.writing.proofs.char_of.Goals as goal

pub returns-then-x-lt10 : goal.returns-then-x-lt10
unfolding char_of
returns-then-x-lt10 c = simp (lt-ltb _ _ c.if-x-lt10.true)

pub returns-else-x-lt10 : goal.returns-else-x-lt10
unfolding char_of
returns-else-x-lt10 c = simp (le-ltb _ _ c.if-x-lt10.false)
