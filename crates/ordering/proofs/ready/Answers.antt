use mathlib.Core.Path.{ap, refl, sym, ◌∙◌}
use mathlib.Core.Bool.{not}
use mathlib.Core.Logic.{inl, inr}
use Rattle.fieldset.proofs.Emptying.{filter_start, filter_step, filter_end}
use Rattle.ordering.proofs.ready.Goals as goal

pub loop-f-init : goal.loop-f-init
loop-f-init c = rw (c.into_iter-f-iterator.ensures.into_iter_gives, c.fields_of-f-items.ensures) filter_start

pub loop-f-preserved-then-not-meets : goal.loop-f-preserved-then-not-meets
loop-f-preserved-then-not-meets c =
    let (U, q) = c.in-Some.ensures.steps in
    filter_step c.loop-f.invariant U (inl (ap not (sym c.meets.ensures ∙ c.if-not-meets.true), c.with-out.ensures)) q

pub loop-f-preserved : goal.loop-f-preserved
loop-f-preserved c =
    let (U, q) = c.in-Some.ensures.steps in
    filter_step c.loop-f.invariant U (inr (ap not (sym c.meets.ensures ∙ c.if-not-meets.false), refl)) q

pub returns : goal.returns
returns c = filter_end c.loop-f.invariant c.in-None.ensures.steps.0
