use mathlib.Core.Path.{refl}
use mathlib.Core.Logic.{inl, inr}
use borrow.Author.Tests.{eq-eqb, ne_eqb}
use Rattle.fieldset.proofs.Emptying.{filter_start, filter_step, filter_end}
use Rattle.strength.proofs.tied.Goals as goal

pub loop-u-init : goal.loop-u-init
loop-u-init c = rw (c.into_iter-u-iterator.ensures.into_iter_gives, c.fields_of-u-items.ensures) filter_start

pub loop-u-preserved-then-table-u : goal.loop-u-preserved-then-table-u
loop-u-preserved-then-table-u c = filter_step c.loop-u.invariant c.in-Some.ensures.steps.0 (inl (eq-eqb _ _ c.if-table-u.true, c.with-ties.ensures)) c.in-Some.ensures.steps.1

pub loop-u-preserved : goal.loop-u-preserved
loop-u-preserved c = filter_step c.loop-u.invariant c.in-Some.ensures.steps.0 (inr (ne_eqb _ _ c.if-table-u.false, refl)) c.in-Some.ensures.steps.1

pub returns : goal.returns
returns c = filter_end c.loop-u.invariant c.in-None.ensures.steps.0
