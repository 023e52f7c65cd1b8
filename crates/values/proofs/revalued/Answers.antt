use mathlib.Core.Path.{◌≡◌, refl, ap, ◌∙◌}
use mathlib.Core.Logic.{inl, inr}
use native.Mathlib.Omega.{arith}
use borrow.Author.Rules.{rules}
use mir.Syntax.{w32}
use mir.Val.{SFits}
use Rattle.fieldset.specs.Fields.{set_of}
use Rattle.fieldset.proofs.Fields.{set_of_step}
use Rattle.values.specs.Limits.{value_at}
use Rattle.values.specs.Changes.{differ, revalued}
use Rattle.values.proofs.Changes.{bits_differ, bits_same}
use Rattle.values.proofs.revalued.Goals as goal
use Rattle.values.proofs.revalued.Goals.{else-before-f, then-before-f}

pub loop-f-init : goal.loop-f-init
unfolding set_of
loop-f-init c = refl

pub loop-f-preserved : goal.loop-f-preserved
loop-f-preserved c =
    let old = value_at c.args.before.now c.loop-f.f in
    let new = value_at c.args.after.now c.loop-f.f in
    let old_fits : SFits w32 old = search rules in
    let new_fits : SFits w32 new = search rules in
    set_of_step (λ f. differ (value_at c.args.before.now f) (value_at c.args.after.now f)) c.loop-f.f (omega arith) c.loop-f.invariant
    (elim c.if-before-f.branch [
      | then-before-f w ↦ inl (bits_differ old new w.if-before-f.true, w.set-is ∙ w.with-set.ensures)
      | else-before-f w ↦ inr (bits_same old_fits new_fits w.if-before-f.false, w.set-is)
    ])

pub returns : goal.returns
unfolding revalued
returns c =
    let e : c.loop-f.f ≡ c.args.n = omega arith in
    c.loop-f.invariant ∙ ap (set_of _) e
