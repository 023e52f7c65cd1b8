-- `removing::remove` meets its contract. A refusal of the checks is the command's (`remove_refused`). A link that waits is dropped
-- (`remove_waiting`). For one that holds a field (`holds`) it is settled what is to be done without it: a loop refuses the removal (`remove_looped`),
-- else the step is the command's (`remove_reversed`).
use Prim.Native.Nat.{◌<◌}
use mathlib.Core.Path.{◌≡◌, sym, ap, ◌∙◌, subst}
use native.Mathlib.Omega.{arith}
use lib.ListN.{length}
use borrow.Author.Rules.{rules}
use Rattle.panel.specs.declared.Standing.TheVariants.{Waiting, Holding}
use Rattle.panel.specs.Items.{link_at}
use Rattle.panel.specs.Steps.{remove_step}
use Rattle.panel.specs.Commands.{removing, performed}
use Rattle.panel.proofs.Outcomes.{decides_refused}
use Rattle.reversal.specs.Reversals.{HeldField}
use Rattle.scanning.proofs.Dropped.{field_small}
use Rattle.panel.proofs.Answers.{is_refused, is_accepted}
use Rattle.removing.proofs.Removed.{old_standing, remove_refused, remove_passes, count_refused, count_standing, remove_waiting, remove_looped, remove_reversed}
use Rattle.removing.proofs.remove.Goals as goal
use Rattle.removing.proofs.remove.Goals.{Else-is_err, After-from}

-- ---- the places: the checks passed, the field that the link holds

passed : (c : Else-is_err) → let s = c.args in (s.id < 128) × (performed s.p.now (removing s.id) ≡ remove_step s.p.now s.id)
passed c =
    let (m, is) = is_accepted _ (sym c.is_err.ensures.value ∙ c.if-is_err.false) in
    remove_passes c.args.p.now c.args.id c.args.old c.requires.2 _ c.check_remove-reply.ensures m is

holds : (c : After-from) → c.args.id < 128 → let s = c.args in (link_at s.p.now.links s.id).standing ≡ Holding c.from.result
holds c small =
    old_standing c.args.p.now c.requires.0 c.args.id small _ c.requires.2 ∙ c.in-Holding.is ∙ ap Holding (sym c.from.ensures)

-- ---- the goals

pub returns-then-is_err-clause-decides : goal.returns-then-is_err-clause-decides
returns-then-is_err-clause-decides c =
    let full : length c.args.path.now ≡ 64 = search rules in
    let (x, is) = is_refused _ (sym c.is_err.ensures.value ∙ c.if-is_err.true) in
    decides_refused c.args.p.now _ _ _ (removing c.args.id) _ full x _ c.requires.2 is
    (remove_refused c.args.p.now c.args.id _ c.requires.2 _ c.check_remove-reply.ensures x is) c.unchanged.ensures

pub returns-then-is_err-clause-worked_after : goal.returns-then-is_err-clause-worked_after
returns-then-is_err-clause-worked_after c =
    let (x, is) = is_refused _ (sym c.is_err.ensures.value ∙ c.if-is_err.true) in
    count_refused c.args.p.now c.requires.0 c.args.id _ c.requires.2 _ c.check_remove-reply.ensures x is _

pub step_of-requires : goal.step_of-requires
step_of-requires c = subst HeldField (sym c.in_default.is) tt

pub returns-in_default-clause-decides : goal.returns-in_default-clause-decides
returns-in_default-clause-decides c =
    let full : length c.args.path.now ≡ 64 = search rules in
    let (small, step) = passed (goal.at.returns-in_default-clause-decides c).Else-is_err in
    remove_waiting c.args.p.now c.requires.0 c.args.id small _ _ _ _ full c.requires.2 c.no_link.ensures c.in_default.is step c.step_of.ensures

pub returns-in_default-clause-worked_after : goal.returns-in_default-clause-worked_after
returns-in_default-clause-worked_after c =
    let (small, step) = passed (goal.at.returns-in_default-clause-worked_after c).Else-is_err in
    count_standing c.args.p.now c.requires.0 c.args.id _ Waiting
    (old_standing c.args.p.now c.requires.0 c.args.id small _ c.requires.2 ∙ c.in_default.is)

pub settle-settled-requires : goal.settle-settled-requires
settle-settled-requires c =
    let h = c.requires.0 in
    let small = (passed (goal.at.settle-settled-requires c).Else-is_err).0 in
    let held = holds (goal.at.settle-settled-requires c).After-from small in
    (h, c.requires.1, field_small c.args.p.now h c.args.id _ small held, omega (arith, h.holding_sets _ _ small held, small))

pub returns-in-Looped-clause-decides : goal.returns-in-Looped-clause-decides
returns-in-Looped-clause-decides c =
    let at = goal.at.returns-in-Looped-clause-decides c in
    let small = (passed at.Else-is_err).0 in
    remove_looped c.args.p.now c.requires.0 c.args.id _ small (holds at.After-from small) _ _ _ c.settle-settled.ensures.settles _ _ c.requires.2
    c.in-Looped.is c.unchanged-in-Looped.ensures

pub returns-in-Looped-clause-worked_after : goal.returns-in-Looped-clause-worked_after
returns-in-Looped-clause-worked_after c =
    let at = goal.at.returns-in-Looped-clause-worked_after c in
    let small = (passed at.Else-is_err).0 in
    c.settle-settled.ensures.worked_after ∙ count_standing c.args.p.now c.requires.0 c.args.id _ (Holding _) (holds at.After-from small)

pub step_of-requires-2 : goal.step_of-requires-2
step_of-requires-2 c =
    let small = (passed (goal.at.step_of-requires-2 c).Else-is_err).0 in
    let held = holds (goal.at.step_of-requires-2 c).After-from small in
    omega (arith, field_small c.args.p.now c.requires.0 c.args.id _ small held, c.from.ensures)

pub returns : goal.returns
returns c =
    let e = c.settle-settled.ensures in
    let small = (passed (goal.at.returns c).Else-is_err).0 in
    let held = holds (goal.at.returns c).After-from small in
    record {
      decides =
          remove_reversed c.args.p.now c.requires.0 c.args.id _ small held _ c.settle-settled.result.number c.settle-settled.result.verdict e.settles _ _ _ c.no_link-2.ensures c.from.ensures
          c.in_default-verdict.not-Looped c.step_of-2.ensures;
      worked_after = e.worked_after ∙ count_standing c.args.p.now c.requires.0 c.args.id _ (Holding _) held;
    }
