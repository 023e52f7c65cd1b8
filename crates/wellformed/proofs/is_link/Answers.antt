-- `wellformed::is_link` meets its contract: a link in use, and the default link.
use mathlib.Core.Path.{sym, ◌∙◌}
use borrow.Author.Rules.{rules}
use Rattle.wellformed.proofs.Tests.{link_used}
use Rattle.wellformed.proofs.is_link.Goals as goal

pub returns-then-l : goal.returns-then-l
returns-then-l c =
    let l = c.args.l in
    link_used _ _ _ l (sym c.is_standing.ensures ∙ c.if-is_standing.true) c.if-l.true (search rules) (search rules) c.is_used.ensures
