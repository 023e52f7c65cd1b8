use mathlib.Core.Path.{ap, refl}
use mathlib.Core.Bool.{not}
use mathlib.Core.Logic.{inl, inr}
use borrow.Author.Tests.{eq-eqb, ne_eqb}
use Rattle.fieldset.proofs.Emptying.{filter_start, filter_step, filter_end}
use Rattle.keeping.proofs.differing.Goals as goal

pub loop-f-init : goal.loop-f-init
loop-f-init c = rw (c.into_iter-f-iterator.ensures.into_iter_gives, c.fields_of-f-items.ensures) filter_start

pub loop-f-preserved-then-shown-f : goal.loop-f-preserved-then-shown-f
loop-f-preserved-then-shown-f c =
    let (U, q) = c.in-Some.ensures.steps in
    filter_step c.loop-f.invariant U (inl (ap not (ne_eqb _ _ c.if-shown-f.true), c.with-out.ensures)) q

pub loop-f-preserved : goal.loop-f-preserved
loop-f-preserved c =
    let (U, q) = c.in-Some.ensures.steps in
    filter_step c.loop-f.invariant U (inr (ap not (eq-eqb _ _ c.if-shown-f.false), refl)) q

pub returns : goal.returns
returns c = filter_end c.loop-f.invariant c.in-None.ensures.steps.0
