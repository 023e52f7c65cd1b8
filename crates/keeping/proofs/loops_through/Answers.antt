use mathlib.Core.Path.{sym, ◌∙◌}
use Rattle.fieldset.proofs.Emptying.{taken_in}
use Rattle.keeping.proofs.Climbing.{low_in, low_reads}
use Rattle.keeping.proofs.Searching.{searching_step, searching_found, searching_end}
use Rattle.keeping.proofs.loops_through.Goals as goal

pub upstream-requires : goal.upstream-requires
upstream-requires c =
    let p = c.requires in
    let U = c.in-Some.ensures.steps.0 in
    (p.0, low_reads p.0 c.in-Some.c (low_in _ _ p.1 c.in-Some.c U.field (taken_in c.loop-c.invariant.loop U)))

pub returns-then-member : goal.returns-then-member
returns-then-member c =
    sym
    (searching_found c.loop-c.invariant c.in-Some.ensures.steps.0
    (rw c.upstream.ensures at (sym c.member.ensures ∙ c.if-member.true)))

pub loop-c-preserved : goal.loop-c-preserved
loop-c-preserved c =
    let (U, q) = c.in-Some.ensures.steps in
    searching_step c.loop-c.invariant U (rw c.upstream.ensures at (sym c.member.ensures ∙ c.if-member.false)) q

pub returns : goal.returns
returns c = sym (searching_end c.loop-c.invariant c.in-None.ensures.steps.0)
