use Prim.Native.Nat.{ℕ, ◌<◌}
use mathlib.Core.Path.{◌≡◌, sym, ap, subst, ◌∙◌}
use mathlib.Core.List.{List}
use lib.IntN.{ℤ}
use borrow.Author.Rules.{rules}
use native.Mathlib.Omega.{arith}
use mir.Syntax.{w32}
use mir.Val.{SFits}
use mir.Facts.{to_z-of_z}
use Rattle.std.specs.Prelude.{Option}
use Rattle.fieldset.specs.Tables.{at}
use Rattle.values.specs.Limits.{limited_values, limited, value_at}
use Rattle.evaluation.specs.Runs.{Runnable}
use Rattle.formulas.specs.Formulas.{Rule, formula_of, computed, Usable}
use Rattle.formulas.proofs.Computing.{formula_link, formula_stay}
use Rattle.evaluation.proofs.Running.{running_start, running_step, running_out, running_end}
use Rattle.evaluation.proofs.evaluate.Goals as goal
use Rattle.evaluation.proofs.evaluate.Goals.{After-compute, After-from-f, Joined-c-lt128, else-c-lt128, then-c-lt128}

-- the field in turn is in range
low : {formula : ℕ → Rule} {reads : ℕ → ℕ} (order : List ℕ) (n i f : ℕ) → Runnable formula reads order n → i < n → f ≡ at order i → f < 64
low order n i f ready less e = rw e (ready.fields i less)

-- its setter's formula
formed : (c : goal.Joined-c-lt128) → c.if-c-lt128.formula ≡ formula_of c.args.formulas.now c.args.setter.now c.from-f.result
formed c =
    elim c.if-c-lt128.branch [
      | then-c-lt128 w ↦ formula_link c.args.formulas.now c.args.setter.now c.from-f.result c.from-c.ensures w.if-c-lt128.true w.formula-is
      | else-c-lt128 w ↦ formula_stay c.args.formulas.now c.args.setter.now c.from-f.result c.from-c.ensures w.if-c-lt128.false w.formula-is
    ]

-- what is computed is the definition's
outcome : (r : Option ℤ) {formula : Rule} (table : List Rule) (setter reads : List ℕ) (v : List ℤ) (g : ℕ)
    → limited_values r ≡ limited (computed formula (at reads g) g (value_at v)) → formula ≡ formula_of table setter g
    → limited_values r ≡ limited (computed (formula_of table setter g) (at reads g) g (value_at v))
outcome r table setter reads v g h e = h ∙ ap (λ (x : Rule). limited (computed x (at reads g) g (value_at v))) e

pub bounds-setter-f : goal.bounds-setter-f
bounds-setter-f c = low _ _ _ _ c.requires c.loop-i-test.true c.from-f.ensures

pub offset_bounds-reads-f : goal.offset_bounds-reads-f
offset_bounds-reads-f c = omega (arith, low _ _ _ _ c.requires c.loop-i-test.true c.from-f.ensures)

pub bounds-reads-f : goal.bounds-reads-f
bounds-reads-f c = low _ _ _ _ c.requires c.loop-i-test.true c.from-f.ensures

pub compute-requires : goal.compute-requires
compute-requires c =
    let a = c.args in
    let reads = at a.reads.now in
    let there = c.requires.usable c.loop-i.i c.loop-i-test.true in (
      low _ _ _ _ c.requires c.loop-i-test.true c.from-f.ensures,
      subst (λ (x : Rule). Usable x (reads c.from-f.result)) (sym (formed (goal.at.compute-requires c).Joined-c-lt128))
          (subst (λ (g : ℕ). Usable (formula_of a.formulas.now a.setter.now g) (reads g)) (sym c.from-f.ensures) there),
    )

pub offset_bounds-values-f : goal.offset_bounds-values-f
offset_bounds-values-f c = omega (arith, low _ _ _ _ c.requires c.loop-i-test.true c.from-f.ensures)

pub bounds-values-f : goal.bounds-values-f
bounds-values-f c = low _ _ _ _ c.requires c.loop-i-test.true c.from-f.ensures

pub returns-in-None : goal.returns-in-None
returns-in-None c =
    let a = c.args in
    let e = outcome _ a.formulas.now a.setter.now a.reads.now c.loop-i.values c.from-f.result c.compute.ensures (formed (goal.at.returns-in-None c).Joined-c-lt128) in
    running_out _ _ _ _ _ c.requires c.loop-i.invariant c.loop-i-test.true c.from-f.ensures e c.in-None.is

pub loop-i-preserved : goal.loop-i-preserved
loop-i-preserved c =
    let a = c.args in
    let h : SFits w32 c.in-Some.x = search rules in
    let e = outcome _ a.formulas.now a.setter.now a.reads.now c.loop-i.values c.from-f.result c.compute.ensures (formed (goal.at.loop-i-preserved c).Joined-c-lt128) in
    rw (to_z-of_z h) (running_step _ _ _ _ _ c.requires c.loop-i.invariant c.loop-i-test.true c.from-f.ensures e c.in-Some.is)

pub returns : goal.returns
returns c = running_end _ _ _ _ _ c.loop-i.invariant c.loop-i-test.false
