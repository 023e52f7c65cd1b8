use mathlib.Core.Path.{◌≡◌, refl, ap, ◌∙◌}
use mathlib.Core.Bool.{not}
use mathlib.Core.Logic.{inl, inr}
use native.Mathlib.Omega.{arith}
use borrow.Author.Tests.{eq-eqb, ne_eqb}
use lib.Dec.{eqb}
use Rattle.fieldset.specs.Tables.{at}
use Rattle.fieldset.specs.Fields.{set_of}
use Rattle.fieldset.proofs.Fields.{set_of_step}
use Rattle.changing.proofs.changed_fields.Goals as goal
use Rattle.changing.proofs.changed_fields.Goals.{else-before-f, then-before-f}

pub loop-f-init : goal.loop-f-init
unfolding set_of
loop-f-init c = refl

pub loop-f-preserved : goal.loop-f-preserved
loop-f-preserved c =
    let s = c.args in
    set_of_step (λ f. not (eqb (at s.before.now f) (at s.after.now f))) c.loop-f.f c.loop-f-test.true c.loop-f.invariant
    (elim c.if-before-f.branch [
      | then-before-f w ↦ inl (ap not (ne_eqb _ _ w.if-before-f.true), w.set-is ∙ w.with-set.ensures)
      | else-before-f w ↦ inr (ap not (eq-eqb _ _ w.if-before-f.false), w.set-is)
    ])

pub returns : goal.returns
returns c =
    let e : c.loop-f.f ≡ 64 = omega arith in
    c.loop-f.invariant ∙ ap (set_of _) e
