use mathlib.Core.Path.{refl, sym, ◌∙◌}
use Rattle.keeping.proofs.Repairing.{passing_kept, passing_done, passing_end}
use Rattle.keeping.proofs.pass.Goals as goal

pub loop-f-preserved-then-not-meets : goal.loop-f-preserved-then-not-meets
loop-f-preserved-then-not-meets c =
    let p = c.requires in
    let (U, q) = c.in-Some.ensures.steps in
    passing_done p.0 p.1 c.loop-f.invariant U q (sym c.meets.ensures ∙ c.if-not-meets.true) c.without-left.ensures (rw c.gather.ensures)

pub loop-f-preserved : goal.loop-f-preserved
loop-f-preserved c =
    let p = c.requires in
    let (U, q) = c.in-Some.ensures.steps in
    passing_kept p.0 p.1 c.loop-f.invariant U q (sym c.meets.ensures ∙ c.if-not-meets.false) refl refl

pub returns : goal.returns
returns c = passing_end c.loop-f.invariant c.in-None.ensures.steps.0
