use mathlib.Core.Path.{◌≡◌, ap, ◌∙◌}
use Prim.Native.Nat.{ℕ, ◌+◌}
use native.Mathlib.Omega.{arith}
use lib.ListN.{length}
use lib.Seq.{sets}
use Rattle.hexadecimal.proofs.Bytes.{length_line}
use Rattle.importing.specs.Imports.{open_frame, flow_lines}
use Rattle.importing.proofs.Flows.{put_none, put_ends, put_more, put_all}
use Rattle.importing.proofs.put_flows.Goals as goal

pub loop-i-init : goal.loop-i-init
loop-i-init c = put_none _ _

pub put_flow-n-requires : goal.put_flow-n-requires
put_flow-n-requires c =
    let ends = put_ends c.loop-i.invariant in (omega arith, omega (arith, c.put_line-n.ensures.value, length_line (open_frame c.args.k)))

pub loop-i-preserved : goal.loop-i-preserved
loop-i-preserved c =
    let l = c.loop-i in
    let put = c.put_flow-n.ensures in
    let flow : _ ≡ l.i = omega arith in
    put_more l.invariant (put.out_after ∙ ap (λ (j : ℕ). sets l.out l.n (flow_lines j)) flow) (put.value ∙ ap (λ (j : ℕ). l.n + length (flow_lines j)) flow)

pub returns : goal.returns
returns c =
    let e = c.put_line-n.ensures in
    let end : c.loop-i.i ≡ c.args.k = omega arith in
    let all = put_all (rw end at c.loop-i.invariant) _ e.out_after e.value in
    record { out_after = all.0; value = all.1 }
