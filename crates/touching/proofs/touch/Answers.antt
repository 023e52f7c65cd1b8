-- `touching::touch` meets its contract. A refusal of the checks is the command's (`touch_refused`). A touch that passes has its stay in front
-- (`front`), with a verdict on it (`judged`): a loop refuses it (`touch_looped`), else the step is the command's (`touch_done`).
use mathlib.Core.Path.{◌≡◌, sym, ap, ◌∙◌}
use mathlib.Core.Logic.{inl, inr}
use native.Mathlib.Omega.{arith}
use borrow.Author.Rules.{rules}
use Prim.Native.Nat.{◌<◌}
use lib.ListN.{length}
use Rattle.panel.specs.Steps.{touch_step}
use Rattle.panel.specs.Commands.{performed, touching}
use Rattle.tables.proofs.Settings.{places}
use Rattle.touching.proofs.Touching.{touch_refused, touch_passes, Front, front_small, front_legal, front_unresolved, Judged, touch_looped, touch_done}
use Rattle.touching.proofs.touch.Goals as goal
use Rattle.touching.proofs.touch.Goals.{After-from-v, After-to_front, Joined-p-v-lt-STAY, then-p-v-lt-STAY, else-p-v-lt-STAY}

-- ---- the places: the checks passed, the stay in front, the verdict

passed : (c : goal.After-from-v) → (c.from-v.result < c.args.p.now.size) × (performed c.args.p.now (touching c.args.f) ≡ touch_step c.args.p.now c.from-v.result)
passed c = rw c.from-v.ensures (touch_passes c.args.p.now c.args.f _ c.check_touch-reply.ensures (sym c.is_err.ensures.value ∙ c.if-is_err.false))

front : (c : goal.After-to_front) → Front c.args.p.now c.from-v.result (touching c.args.f) c.to_front.new.place
front c =
    let (inside, step) : (c.from-v.result < c.args.p.now.size) × (performed c.args.p.now (touching c.args.f) ≡ touch_step c.args.p.now c.from-v.result) =
    rw c.from-v.ensures (touch_passes c.args.p.now c.args.f _ c.check_touch-reply.ensures (sym c.is_err.ensures.value ∙ c.if-is_err.false)) in
    record { legal = c.requires.0; field = inside; step = step; places = c.to_front.ensures }

judged : (c : goal.Joined-p-v-lt-STAY) (x : Front c.args.p.now c.from-v.result (touching c.args.f) c.to_front.new.place)
    → let t = c.args.tables.now in Judged x t.others t.reads t.levels c.if-p-v-lt-STAY.path c.if-p-v-lt-STAY.verdict
judged c x =
    let full : length c.args.path.now ≡ 64 = search rules in
    elim c.if-p-v-lt-STAY.branch [
      | then-p-v-lt-STAY w ↦
          inl (w.if-p-v-lt-STAY.true, _, w.stay_levels.ensures, rw (← w.only-set.ensures, w.path-is, w.verdict-is) w.resolve-verdict.ensures.resolved)
      | else-p-v-lt-STAY w ↦ inr (w.if-p-v-lt-STAY.false, w.verdict-is, ap length w.path-is ∙ full)
    ]

-- ---- the goals

pub returns-then-is_err : goal.returns-then-is_err
returns-then-is_err c k same =
    touch_refused c.args.p.now c.args.f _ c.check_touch-reply.ensures (sym c.is_err.ensures.value ∙ c.if-is_err.true) k _ same _ (search rules) _
    c.unchanged.ensures

pub to_front-requires : goal.to_front-requires
to_front-requires c = omega (arith, (passed (goal.at.to_front-requires c).After-from-v).0, c.requires.0.few)

pub bounds-p-v : goal.bounds-p-v
bounds-p-v c = front_small (front (goal.at.bounds-p-v c).After-to_front)

pub stay_levels-requires : goal.stay_levels-requires
stay_levels-requires c = places _ (front_legal (front (goal.at.stay_levels-requires c).After-to_front))

pub only-set-requires : goal.only-set-requires
only-set-requires c = front_small (front (goal.at.only-set-requires c).After-to_front)

pub resolve-verdict-requires : goal.resolve-verdict-requires
resolve-verdict-requires c =
    rw c.only-set.ensures (front_unresolved (front (goal.at.resolve-verdict-requires c).After-to_front) c.if-p-v-lt-STAY.true c.requires.1 c.stay_levels.ensures _ (search rules))

pub returns-in-Looped : goal.returns-in-Looped
returns-in-Looped c k same =
    let x = front (goal.at.returns-in-Looped c).After-to_front in
    touch_looped x c.requires.1 _ _ (judged (goal.at.returns-in-Looped c).Joined-p-v-lt-STAY x) k _ same _ c.in-Looped.is c.unchanged-in-Looped.ensures

pub returns : goal.returns
returns c k same =
    let x = front (goal.at.returns c).After-to_front in
    touch_done x c.requires.1 _ _ (judged (goal.at.returns c).Joined-p-v-lt-STAY x) k _ same _ c.in_default.not-Looped c.step_of.ensures
