-- `parsing::enter_link` meets its contract: the link, then the setter of the field that it holds.
use Prim.Native.Nat.{ℕ}
use mathlib.Core.Path.{ap, ap₂, ◌∙◌}
use native.Mathlib.Omega.{arith}
use lib.ListN.{set}
use borrow.Author.Rules.{rules}
use Rattle.fieldset.specs.Tables.{at}
use Rattle.panel.specs.declared.Link.{Link}
use Rattle.parsing.specs.Parsing.{field_part}
use Rattle.parsing.proofs.Entries.{with_links, set_past, linked}
use Rattle.parsing.proofs.enter_link.Goals as goal
use Rattle.parsing.proofs.enter_link.Goals.{then-id-lt128, else-id-lt128}

pub returns : goal.returns
returns c =
    let p = c.args.p.now in
    let frame = c.args.frame.now in
    linked p c.if-id-lt128.p frame (field_part frame c.args.n) _ (search rules)
    (elim c.if-id-lt128.branch [
      | then-id-lt128 w ↦ w.p-is ∙ ap₂ (λ (i : ℕ) (l : Link). with_links p (set p.links i l)) w.from.ensures w.link_of.ensures
      | else-id-lt128 w ↦ w.p-is ∙ ap (with_links p) (set_past p.links (at frame 1) _ (omega (arith, c.requires, w.if-id-lt128.false)))
    ])
    (c.store.ensures ∙ ap (λ (f : ℕ). set c.if-id-lt128.p.setter f (at frame 1)) c.from-2.ensures)
