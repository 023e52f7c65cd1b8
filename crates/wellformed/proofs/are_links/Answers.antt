use mathlib.Core.Path.{sym, ◌∙◌}
use native.Mathlib.Omega.{arith}
use Rattle.std.proofs.Common.{below_more}
use Rattle.images.proofs.Facts.{every_all}
use Rattle.wellformed.proofs.Tests.{every_fails, no_link, no_rule, number_passes}
use Rattle.wellformed.proofs.are_links.Goals as goal
use Rattle.wellformed.proofs.are_links.Goals.{then-not-is_link-via-then-not-is_link, then-not-is_link-via-else-not-is_link+then-not-is_rule}

pub returns-then-not-is_link : goal.returns-then-not-is_link
returns-then-not-is_link c =
    let p = c.args.p.now in
    let formulas = c.args.formulas.now in
    let i = c.loop-i.i in
    every_fails _ 128 i c.loop-i-test.true
    (elim c.then-not-is_link.branch [
      | then-not-is_link-via-then-not-is_link w ↦ no_link p formulas i (sym c.is_link.ensures ∙ w.if-not-is_link.true)
      | then-not-is_link-via-else-not-is_link+then-not-is_rule w ↦ no_rule p formulas i (sym w.is_rule.ensures ∙ w.if-not-is_rule.true)
    ])

pub loop-i-preserved : goal.loop-i-preserved
loop-i-preserved c =
    below_more _ _ c.loop-i.invariant
    (number_passes c.args.p.now c.args.formulas.now c.loop-i.i (sym c.is_link.ensures ∙ c.if-not-is_link.false) (sym c.is_rule.ensures ∙ c.if-not-is_rule.false))

pub returns : goal.returns
returns c = sym (every_all _ 128 (λ k l. c.loop-i.invariant k (omega arith)))
