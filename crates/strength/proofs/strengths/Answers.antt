use Prim.Native.Nat.{ℕ}
use mathlib.Core.Path.{◌≡◌, ap, ◌∙◌, subst}
use native.Mathlib.Omega.{arith}
use Rattle.fieldset.specs.Fields.{below, minus}
use Rattle.fieldset.proofs.Fields.{size_le}
use Rattle.strength.proofs.Gather.{Begun, none_begun, next_left, next_alone, rest_asks, all_counted, listed}
use Rattle.strength.proofs.strengths.Goals as goal
use Rattle.strength.proofs.strengths.Goals.{else-others-v-eq0, then-others-v-eq0, After-minus}

pub loop-v-init : goal.loop-v-init
loop-v-init c = none_begun c.requires.1

pub overflow_add-count : goal.overflow_add-count
overflow_add-count c = let l = c.loop-v in omega (arith, l.invariant.counted, size_le l.known)

pub loop-v-preserved : goal.loop-v-preserved
loop-v-preserved c =
    let B = c.loop-v.invariant in
    elim c.if-others-v-eq0.branch [
      | then-others-v-eq0 w ↦ rw (w.table-is, w.known-is, w.count-is, w.with-known.ensures) (next_alone B (omega arith) w.if-others-v-eq0.true)
      | else-others-v-eq0 w ↦ rw (w.table-is, w.known-is, w.count-is) (next_left B)
    ]

begun : (m : goal.After-minus) → let l = m.loop-v in let a = m.args in Begun a.levels.now a.others.now a.table.now l.table a.n l.known l.count
begun m =
    let l = m.loop-v in
    let a = m.args in
    let end : l.v ≡ a.n = omega arith in
    subst (λ (v : ℕ). Begun a.levels.now a.others.now a.table.now l.table v l.known l.count) end l.invariant

rest_is : (m : goal.After-minus) → m.minus.result ≡ minus (below m.args.n) m.loop-v.known
rest_is m = m.minus.ensures ∙ ap (λ (k : ℕ). minus k m.loop-v.known) m.below.ensures

pub fill-rest-requires : goal.fill-rest-requires
fill-rest-requires c =
    rest_asks c.requires.0 (begun (goal.at.fill-rest-requires c).After-minus) (rest_is (goal.at.fill-rest-requires c).After-minus)

pub overflow_add-result : goal.overflow_add-result
overflow_add-result c =
    let A = c.requires.0 in
    omega (arith, all_counted A (begun (goal.at.overflow_add-result c).After-minus) (rest_is (goal.at.overflow_add-result c).After-minus) c.fill-rest.ensures, A.few)

pub returns-clause-table_after : goal.returns-clause-table_after
returns-clause-table_after c =
    let m = (goal.at.returns-clause-table_after c).After-minus in
    listed c.requires.0 (begun m) (rest_is m) c.fill-rest.ensures c.requires.1

pub returns-clause-value : goal.returns-clause-value
returns-clause-value c =
    let m = (goal.at.returns-clause-value c).After-minus in
    all_counted c.requires.0 (begun m) (rest_is m) c.fill-rest.ensures
