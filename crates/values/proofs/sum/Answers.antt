use mathlib.Core.Path.{◌≡◌, refl, ◌∙◌}
use borrow.Author.Rules.{rules}
use mir.Syntax.{w32, w64}
use mir.Val.{SFits}
use mir.Facts.{to_z-of_z}
use Rattle.values.specs.Limits.{value_at}
use Rattle.values.proofs.Integers.{value_small}
use Rattle.values.proofs.Sums.{summing_start, summing_fits, summing_step, summing_end}
use Rattle.values.proofs.sum.Goals as goal

pub loop-f-init : goal.loop-f-init
loop-f-init c = rw (c.into_iter-f-iterator.ensures.into_iter_gives, c.fields_of-f-items.ensures) (summing_start _)

pub plus-s-requires : goal.plus-s-requires
plus-s-requires c =
    let read : SFits w32 (value_at c.args.values.now c.in-Some.f) = search rules in
    rw (to_z-of_z read) (summing_fits c.loop-f.invariant c.in-Some.ensures.steps.0 (value_small read))

pub loop-f-preserved : goal.loop-f-preserved
loop-f-preserved c =
    let read : SFits w32 (value_at c.args.values.now c.in-Some.f) = search rules in
    let fits : SFits w64 c.plus-s.result = record { sfits = c.plus-s.type_inv } in
    rw (to_z-of_z fits)
    (summing_step c.loop-f.invariant c.in-Some.ensures.steps.0 (value_small read) (c.plus-s.ensures ∙ rw (to_z-of_z read)) c.in-Some.ensures.steps.1)

pub returns : goal.returns
returns c = summing_end c.loop-f.invariant c.in-None.ensures.steps.0
