use mathlib.Core.Path.{sym, ◌∙◌}
use mir.Facts.{to_z-of_z}
use mir.Syntax.{w32}
use native.Mathlib.Omega.{arith}
use Rattle.std.proofs.Common.{below_more}
use borrow.Author.Rules.{rules}
use Rattle.values.specs.Limits.{value_at}
use Rattle.images.proofs.Facts.{every_all}
use Rattle.wellformed.proofs.Tests.{every_fails, setter_is, not_placed, not_set, not_valued, passes}
use Rattle.wellformed.proofs.are_fields.Goals as goal
use Rattle.wellformed.proofs.are_fields.Goals.{then-not-is_place-via-then-not-is_place, then-not-is_place-via-else-not-is_place+then-not-is_setter, then-not-is_place-via-else-not-is_place+else-not-is_setter+then-not-is_value}

pub returns-then-not-is_place-clause-tested : goal.returns-then-not-is_place-clause-tested
returns-then-not-is_place-clause-tested c =
    let p = c.args.p.now in
    let values = c.args.values.now in
    let f = c.loop-f.f in
    every_fails _ 64 f c.loop-f-test.true
    (elim c.then-not-is_place.branch [
      | then-not-is_place-via-then-not-is_place w ↦ not_placed p values f (sym c.is_place.ensures ∙ w.if-not-is_place.true)
      | then-not-is_place-via-else-not-is_place+then-not-is_setter w ↦
          not_set p values f (sym (setter_is p.links p.setter _ _ _ _ c.from-i.ensures c.number_or_0.ensures.0 w.is_setter.ensures) ∙ w.if-not-is_setter.true)
      | then-not-is_place-via-else-not-is_place+else-not-is_setter+then-not-is_value w ↦
          not_valued p values f
          (sym (rw (to_z-of_z {w = w32} {z = value_at values f} (record { sfits = search rules })) at w.is_value.ensures) ∙ w.if-not-is_value.true)
    ])

pub loop-f-preserved : goal.loop-f-preserved
loop-f-preserved c =
    let p = c.args.p.now in
    let values = c.args.values.now in
    let f = c.loop-f.f in
    below_more _ _ c.loop-f.invariant
    (passes p values f (sym c.is_place.ensures ∙ c.if-not-is_place.false)
    (sym (setter_is p.links p.setter _ _ _ _ c.from-i.ensures c.number_or_0.ensures.0 c.is_setter.ensures) ∙ c.if-not-is_setter.false)
    (sym (rw (to_z-of_z {w = w32} {z = value_at values f} (record { sfits = search rules })) at c.is_value.ensures) ∙ c.if-not-is_value.false))

pub returns-clause-tested : goal.returns-clause-tested
returns-clause-tested c = sym (every_all _ 64 (λ k l. c.loop-f.invariant k (omega arith)))
