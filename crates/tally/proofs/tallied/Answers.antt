-- `tally::tallied` meets its contract: by cases on whether the refusal is 0, with the counts that `more` answers. Assumes nothing.
use borrow.Author.Tests.{eq-eqb, ne_eqb}
use Rattle.tally.specs.Tallies.{tallied}
use Rattle.tally.proofs.tallied.Goals as goal

pub returns-then-refusal-eq0 : goal.returns-then-refusal-eq0
unfolding tallied
returns-then-refusal-eq0 c = rw (c.more-lines.ensures, c.more.ensures) (simp (eq-eqb _ _ c.if-refusal-eq0.true))

pub returns-else-refusal-eq0 : goal.returns-else-refusal-eq0
unfolding tallied
returns-else-refusal-eq0 c = rw (c.more-lines.ensures, c.more-else-refusal-eq0.ensures) (simp (ne_eqb _ _ c.if-refusal-eq0.false))
