use Prim.Native.Nat.{◌<◌}
use mathlib.Core.Path.{◌≡◌, refl, ◌∙◌}
use native.Mathlib.Omega.{arith}
use borrow.Author.Rules.{rules}
use lib.ListN.{length, take, length-take}
use lib.Seq.{get_or-take}
use Rattle.fieldset.specs.Tables.{at}
use Rattle.taking.proofs.Reversal.{Starts, reversing_freed, reversing_all, reversing_next, reversing_ends}
use Rattle.taking.proofs.reverse.Goals as goal
use Rattle.taking.proofs.reverse.Goals.{in-Holding, in_default, Joined-step}

-- what the loop starts from: the tables are the panel's, with the stay that steps in where a field is freed
starts : (c : goal.Joined-step) → Starts c.args.step.now.count c.args.path.now c.args.step.now.setter c.args.p.now c.args.step.now.freed c.match-step.p c.match-step.tables
starts c =
    let full : length c.args.p.now.setter ≡ 64 = search rules in
    elim c.match-step.branch [
      | in-Holding w ↦
          reversing_freed _ _ _ c.requires.1 full c.requires.2 w.in-Holding.is w.from-f.ensures refl (w.tables-is ∙ rw w.stay_entry.ensures at w.enter.ensures) w.p-is
      | in_default w ↦ reversing_all _ _ _ c.requires.1 full c.requires.2 w.in_default.is w.tables-is w.p-is
    ]

pub loop-f-init : goal.loop-f-init
loop-f-init c = (starts (goal.at.loop-f-init c).Joined-step).1

pub loop-f-preserved : goal.loop-f-preserved
loop-f-preserved c =
    let i = c.loop-f.f-index in
    let path = c.args.path.now in
    let count = c.args.step.now.count in
    let less : i < count = omega (arith, c.loop-f-test.true, length-take count path) in
    let small : at (take count path) i < 64 = rw get_or-take (c.requires.0.fields i less) in
    rw c.enter-in-loop-f.ensures
    (reversing_next _ c.loop-f.invariant c.loop-f-test.true small c.from-k.ensures c.from-j.ensures c.standing_of.ensures c.number_of.ensures
    c.setter_entry-e.ensures)

pub returns : goal.returns
returns c =
    let (panel, tabled) = reversing_ends _ c.loop-f.invariant c.loop-f-test.false c.from-j-2.ensures c.standing_of-2.ensures in
    record { reversed = panel ∙ rw (starts (goal.at.returns c).Joined-step).0 refl; tabled = tabled }
