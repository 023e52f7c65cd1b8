use Rattle.fieldset.proofs.Emptying.{taken_in}
use Rattle.keeping.proofs.Climbing.{low_in}
use Rattle.keeping.proofs.Renewing.{rereading_step, rereading_shown, rereading_told}
use Rattle.keeping.proofs.reread.Goals as goal

pub renew-requires : goal.renew-requires
renew-requires c =
    let p = c.requires in
    let inv = c.loop-c.invariant in
    let U = c.in-Some.ensures.steps.0 in
    (p.n_bound.0, low_in _ _ p.within.0 c.in-Some.c U.field (taken_in inv.loop U), inv.long, inv.told)

pub loop-c-preserved : goal.loop-c-preserved
loop-c-preserved c =
    let (U, q) = c.in-Some.ensures.steps in
    let told = c.renew.ensures in
    rereading_step c.loop-c.invariant U told.0 told.1 q

pub returns : goal.returns
returns c =
    let p = c.requires in
    let inv = c.loop-c.invariant in
    let none = c.in-None.ensures.steps.0 in
    (rereading_shown inv p.within.1 p.n_bound.2 none, rereading_told inv p.within.1 p.n_bound.2 none)
