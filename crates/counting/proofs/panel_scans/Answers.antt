use Prim.Native.Nat.{ℕ, ◌≤◌, ◌<◌}
use mathlib.Core.Bool.{true, false}
use mathlib.Core.List.{List, []}
use mathlib.Core.Path.{◌≡◌, refl, sym, ap, ◌∙◌}
use native.Mathlib.Omega.{arith}
use borrow.Author.Tests.{ltb-false}
use lib.ListN.{length}
use lib.Seq.{sets, length-sets}
use Rattle.frames.specs.Texts.{text_limit, is_too_long}
use Rattle.replies.specs.Replies.{longest}
use Rattle.counting.specs.Counts.{scans_of}
use Rattle.counting.proofs.Counting.{none_counted, counted_all, line_still, line_scans}
use Rattle.counting.proofs.panel_scans.Goals as goal
use Rattle.counting.proofs.panel_scans.Goals.{After-lines_from-r, At-loop-at}

-- ---- the places: a line is answered

fits : (c : At-loop-at) → is_too_long c.args.text.now ≡ false
fits c = sym c.is_too_long.ensures ∙ c.if-is_too_long.false

-- the run goes on, within the text
on : (c : After-lines_from-r) → (c.loop-at.at < c.lines_from-r.result.next) × (c.lines_from-r.result.next ≤ length c.args.text.now)
on c =
    let l = c.loop-at in
    let e = c.lines_from-r.ensures.resumed in
    (e.progress c.loop-at-test.true (omega (arith, l.invariant.0)), omega (arith, e.within, c.loop-at-test.true))

still_full : (c : After-lines_from-r) → length c.lines_from-r.new.out ≡ longest
still_full c = ap length c.lines_from-r.ensures.ran_from.buffer ∙ simp length-sets c.loop-at.invariant.0

-- ---- the needs

-- a text that is too long has none
no_scans : (text : List ℕ) → is_too_long text ≡ true → scans_of text ≡ []
unfolding scans_of
no_scans text e = rw e

pub returns-then-is_too_long : goal.returns-then-is_too_long
returns-then-is_too_long c =
    let none = no_scans c.args.text.now (sym c.is_too_long.ensures ∙ c.if-is_too_long.true) in
    record { value = ap length (sym none); counts_after = ap (sets c.args.counts.now 0) (sym none) }

pub loop-at-init : goal.loop-at-init
loop-at-init c = (refl, none_counted _ _ _ c.unopened-s.ensures.0 c.unopened-s.ensures.1)

pub slice_bounds-lines_from-end : goal.slice_bounds-lines_from-end
slice_bounds-lines_from-end c = sym c.loop-at.invariant.0

pub lines_from-r-requires : goal.lines_from-r-requires
lines_from-r-requires c = c.loop-at.invariant.1.legal

pub overflow_add-made : goal.overflow_add-made
overflow_add-made c =
    omega (arith, c.loop-at.invariant.1.few, c.loop-at.invariant.1.within, ltb-false text_limit (length c.args.text.now) (fits (goal.at.overflow_add-made c).At-loop-at))

pub loop-at-smaller-then-r-ne0 : goal.loop-at-smaller-then-r-ne0
loop-at-smaller-then-r-ne0 c =
    let o = on (goal.at.loop-at-smaller-then-r-ne0 c).After-lines_from-r in
    omega (arith, o.0, o.1)

pub loop-at-preserved-then-r-ne0 : goal.loop-at-preserved-then-r-ne0
loop-at-preserved-then-r-ne0 c =
    let l = c.loop-at in
    let a = (goal.at.loop-at-preserved-then-r-ne0 c).After-lines_from-r in
    let o = on a in (
      still_full a,
      line_scans l.invariant.1 _ _ c.lines_from-r.ensures.ran_from l.invariant.0 c.loop-at-test.true o.0 o.1 c.if-r-ne0.true _ c.store.ensures,
    )

pub loop-at-smaller : goal.loop-at-smaller
loop-at-smaller c =
    let o = on (goal.at.loop-at-smaller c).After-lines_from-r in
    omega (arith, o.0, o.1)

pub loop-at-preserved : goal.loop-at-preserved
loop-at-preserved c =
    let l = c.loop-at in
    let a = (goal.at.loop-at-preserved c).After-lines_from-r in
    let o = on a in
    (still_full a, line_still l.invariant.1 _ _ c.lines_from-r.ensures.ran_from l.invariant.0 c.loop-at-test.true o.0 o.1 c.if-r-ne0.false)

pub returns : goal.returns
returns c =
    let w = counted_all c.loop-at.invariant.1 (omega (arith, c.loop-at-test.false)) (fits (goal.at.returns c).At-loop-at) in
    record { value = w.0; counts_after = w.1 }
