use mathlib.Core.Path.{◌≡◌, ap, ◌∙◌}
use Prim.Native.Nat.{ℕ, ◌-◌, ◌+◌, ◌*◌}
use native.Mathlib.Omega.{arith}
use lib.ListN.{take, drop}
use Rattle.std.specs.Slice.Iter.{chunks_exact_rest, chunks_exact_size}
use Rattle.edf.proofs.Counting.{counted_none, counted_flow, counted_other, unclear_found, counted_all}
use Rattle.edf.proofs.read_units.Goals as goal

pub overflow_add-flows : goal.overflow_add-flows
overflow_add-flows c = omega (arith, c.loop-unit.invariant.few, c.loop-unit.invariant.room, c.requires)

pub loop-unit-init : goal.loop-unit-init
loop-unit-init c =
    let n : ℕ = c.args.n in
    let width : 256 + n * 96 + n * 8 - (256 + n * 96) ≡ n * 8 = omega arith in
    let e = c.into_iter-unit-iterator.ensures.into_iter_gives in
    let f = c.chunks_exact-unit-items.ensures in
    counted_none _ _ _ _ c.requires (ap chunks_exact_rest e ∙ f.rest ∙ ap (λ (k : ℕ). take k (drop (256 + n * 96) c.args.file.now)) width)
    (ap chunks_exact_size e ∙ f.size)

pub loop-unit-preserved-in-Flow : goal.loop-unit-preserved-in-Flow
loop-unit-preserved-in-Flow c =
    let s = c.in-Some.ensures.steps in counted_flow c.loop-unit.invariant _ _ s.1.0 s.1.1 c.in-Flow.ensures s.0

pub loop-unit-preserved : goal.loop-unit-preserved
loop-unit-preserved c = let s = c.in-Some.ensures.steps in counted_other c.loop-unit.invariant _ _ s.1.0 s.1.1 c.in-Other.ensures s.0

pub returns-in-Unclear : goal.returns-in-Unclear
returns-in-Unclear c = let s = c.in-Some.ensures.steps in unclear_found c.loop-unit.invariant _ _ s.1.0 s.1.1 c.in-Unclear.ensures

pub returns : goal.returns
returns c = counted_all c.loop-unit.invariant c.in-None.ensures.steps.1.0
