-- `formulas::compute` meets its contract, by the cases of the formula: the value is kept (`kept`); a ratio of the other field, upwards or downwards
-- (`ratio_up`, `ratio_down`); a sum, or the sum's field less the rest (`sum_here`, `sum_there`). No step wraps: a sum of 64 values fits 64 bits.
use Prim.Native.Nat.{ℕ, ◌^◌, ◌<◌}
use mathlib.Core.Path.{◌≡◌, sym, ap, ap₂, ◌∙◌}
use borrow.Author.Rules.{rules}
use lib.IntN.{◌-ℤ◌}
use native.Mathlib.Omega.{arith}
use mir.Syntax.{w32, w64}
use mir.Val.{SFits}
use mir.Facts.{to_z-of_z}
use Rattle.std.specs.Prelude.{Some}
use Rattle.fieldset.specs.Fields.{without, lowest_of}
use Rattle.values.specs.Limits.{value_at}
use Rattle.values.specs.Sums.{total}
use Rattle.formulas.specs.declared.Formula.TheVariants.{Ratio, Sum}
use Rattle.formulas.specs.Formulas.{Rule, Usable}
use Rattle.formulas.proofs.Computing.{kept, ratio_usable, ratio_up, ratio_down, sum_usable, sum_here, sum_there, less_fits, other_low}
use Rattle.formulas.proofs.compute.Goals as goal
use Rattle.formulas.proofs.compute.Goals.{In-Some-Ratio, In-Some-Sum}

-- the formula of an arm
ratio_is : (c : In-Some-Ratio) → c.args.formula ≡ Some (Ratio c.in-Some-Ratio.p c.in-Some-Ratio.q)
ratio_is c = c.in-Some-Ratio.is ∙ ap Some (rw c.in-Some-Ratio.is at c.in-Some-Ratio.field-0-is)

sum_is : (c : In-Some-Sum) → c.args.formula ≡ Some (Sum c.in-Some-Sum.s)
sum_is c = c.in-Some-Sum.is ∙ ap Some (rw c.in-Some-Sum.is at c.in-Some-Sum.field-0-is)

-- the other field of a ratio is in range
other : {formula : Rule} {p q g : ℕ} (reads : ℕ) → reads < 2 ^ 64 → formula ≡ Some (Ratio p q) → Usable formula reads → g ≡ lowest_of reads → g < 64
other reads fits e u low = other_low reads fits (ratio_usable reads e u).1.1 low

-- the field of a sum is in range
summed : {formula : Rule} {g h : ℕ} (reads : ℕ) → formula ≡ Some (Sum g) → Usable formula reads → h ≡ g → h < 64
summed reads e u same = rw same (sum_usable reads e u)

pub offset_bounds-values-g : goal.offset_bounds-values-g
offset_bounds-values-g c = omega (arith, other c.args.reads c.ranges.reads.fits (ratio_is (goal.at.offset_bounds-values-g c).In-Some-Ratio) c.requires.1 c.lowest-g.ensures)

pub bounds-values-g : goal.bounds-values-g
bounds-values-g c = other c.args.reads c.ranges.reads.fits (ratio_is (goal.at.bounds-values-g c).In-Some-Ratio) c.requires.1 c.lowest-g.ensures

pub offset_bounds-values-g-else-g-f : goal.offset_bounds-values-g-else-g-f
offset_bounds-values-g-else-g-f c = omega (arith, other c.args.reads c.ranges.reads.fits (ratio_is (goal.at.offset_bounds-values-g-else-g-f c).In-Some-Ratio) c.requires.1 c.lowest-g.ensures)

pub bounds-values-g-else-g-f : goal.bounds-values-g-else-g-f
bounds-values-g-else-g-f c = other c.args.reads c.ranges.reads.fits (ratio_is (goal.at.bounds-values-g-else-g-f c).In-Some-Ratio) c.requires.1 c.lowest-g.ensures

pub ratio-requires : goal.ratio-requires
ratio-requires c = (ratio_usable c.args.reads (ratio_is (goal.at.ratio-requires c).In-Some-Ratio) c.requires.1).1.0

pub ratio-requires-else-g-f : goal.ratio-requires-else-g-f
ratio-requires-else-g-f c = (ratio_usable c.args.reads (ratio_is (goal.at.ratio-requires-else-g-f c).In-Some-Ratio) c.requires.1).0

pub offset_bounds-values-g-else-f-g : goal.offset_bounds-values-g-else-f-g
offset_bounds-values-g-else-f-g c = omega (arith, summed c.args.reads (sum_is (goal.at.offset_bounds-values-g-else-f-g c).In-Some-Sum) c.requires.1 c.from-g.ensures)

pub bounds-values-g-else-f-g : goal.bounds-values-g-else-f-g
bounds-values-g-else-f-g c = summed c.args.reads (sum_is (goal.at.bounds-values-g-else-f-g c).In-Some-Sum) c.requires.1 c.from-g.ensures

pub without-requires : goal.without-requires
without-requires c = summed c.args.reads (sum_is (goal.at.without-requires c).In-Some-Sum) c.requires.1 c.from-g.ensures

pub minus-requires : goal.minus-requires
minus-requires c =
    let k : SFits w64 c.sum-else-f-g.result = record { sfits = c.sum-else-f-g.type_inv } in
    let t : SFits w32 (value_at c.args.values.now c.from-g.result) = search rules in
    rw (to_z-of_z t, to_z-of_z k) (less_fits c.sum-else-f-g.result t c.sum-else-f-g.ensures.1)

pub returns-in-None : goal.returns-in-None
returns-in-None c =
    let h : SFits w32 (value_at c.args.values.now c.args.f) = search rules in
    rw (to_z-of_z h) (kept c.args.reads c.args.f (value_at c.args.values.now) c.in-None.is h)

pub returns-then-g-f : goal.returns-then-g-f
returns-then-g-f c =
    let a = c.args in
    let h : SFits w32 (value_at a.values.now c.lowest-g.result) = search rules in
    ratio_up a.reads a.f (value_at a.values.now) (ratio_is (goal.at.returns-then-g-f c).In-Some-Ratio) c.lowest-g.ensures c.if-g-f.true (c.ratio.ensures ∙ rw (to_z-of_z h))

pub returns-else-g-f : goal.returns-else-g-f
returns-else-g-f c =
    let a = c.args in
    let h : SFits w32 (value_at a.values.now c.lowest-g.result) = search rules in
    ratio_down a.reads a.f (value_at a.values.now) (ratio_is (goal.at.returns-else-g-f c).In-Some-Ratio) c.lowest-g.ensures c.if-g-f.false (c.ratio-else-g-f.ensures ∙ rw (to_z-of_z h))

pub returns-then-f-g : goal.returns-then-f-g
returns-then-f-g c =
    let t = c.sum in
    let a = c.args in
    let k : SFits w64 t.result = record { sfits = t.type_inv } in
    sum_here a.reads a.f (value_at a.values.now) (sum_is (goal.at.returns-then-f-g c).In-Some-Sum) (c.if-f-g.true ∙ c.from-g.ensures) t.ensures.0
    (c.limit.ensures ∙ rw (to_z-of_z k))

pub returns-else-f-g : goal.returns-else-f-g
returns-else-f-g c =
    let m = c.minus in
    let t = c.sum-else-f-g in
    let a = c.args in
    let values = value_at a.values.now in
    let read : SFits w32 (value_at a.values.now c.from-g.result) = search rules in
    let j : SFits w64 m.result = record { sfits = m.type_inv } in
    let k : SFits w64 t.result = record { sfits = t.type_inv } in
    sum_there a.reads a.f values (sum_is (goal.at.returns-else-f-g c).In-Some-Sum) (λ e. c.if-f-g.false (e ∙ sym c.from-g.ensures))
    (m.ensures
    ∙ ap₂ ◌-ℤ◌ (to_z-of_z read ∙ ap values c.from-g.ensures)
    (to_z-of_z k ∙ t.ensures.0 ∙ ap (total values) (c.without.ensures ∙ ap (without a.reads) c.from-g.ensures)))
    (c.limit-else-f-g.ensures ∙ rw (to_z-of_z j))
