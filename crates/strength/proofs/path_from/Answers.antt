use Prim.Native.Nat.{◌<◌}
use native.Mathlib.Omega.{arith}
use Rattle.fieldset.proofs.Emptying.{first_falls}
use Rattle.strength.proofs.Way.{scan_pos, scan_pass, scan_found, scan_start, way_start, way_reversal, way_stop}
use Rattle.strength.proofs.path_from.Goals as goal

pub walk-init : goal.walk-init
walk-init c = let p = c.requires in way_start p.0 p.1 p.2 p.3 p.4

pub loop-at-init : goal.loop-at-init
loop-at-init c = scan_start c.requires.1 c.walk.invariant c.if-levels-at.true

pub first-next-requires : goal.first-next-requires
first-next-requires c = scan_pos c.loop-at.invariant

pub walk-preserved : goal.walk-preserved
walk-preserved c =
    way_reversal c.requires.1 c.walk.invariant c.if-levels-at.true (scan_found c.loop-at.invariant c.first-next.ensures c.if-table-next.true)

pub without_lowest-rest-requires : goal.without_lowest-rest-requires
without_lowest-rest-requires c = scan_pos c.loop-at.invariant

pub loop-at-smaller : goal.loop-at-smaller
loop-at-smaller c = first_falls c.first-next.ensures c.without_lowest-rest.ensures

pub loop-at-preserved : goal.loop-at-preserved
loop-at-preserved c =
    scan_pass c.loop-at.invariant c.first-next.ensures c.if-table-next.false c.without_lowest-rest.ensures

pub returns : goal.returns
returns c =
    let p = c.requires in
    let v : c.args.v < 64 = omega (arith, p.0.few, p.2) in
    way_stop p.1 c.walk.invariant (p.1.right c.args.v v p.3) c.if-levels-at.false
