use Prim.Native.Nat.{◌<◌}
use mathlib.Core.Path.{refl, sym, ap, ◌∙◌}
use native.Mathlib.Omega.{arith}
use Rattle.panel.specs.Items.{link, stay, link_at}
use Rattle.scanning.specs.Scan.{is_blocked_link, with_setters}
use Rattle.scanning.proofs.Over.{link_blocked, link_level, stay_over, stay_under, stay_sets}
use Rattle.scanning.proofs.Scan.{scan_none, scan_takes, scan_leaves, scan_keeps, next_link, next_stay, stays_start, scan_done}
use Rattle.scanning.proofs.find_blocked.Goals as goal
use Rattle.scanning.proofs.find_blocked.Goals.{then-l-least+then-is_blocked, else-l-least, else-l-least-via-then-l-least+else-is_blocked, else-l-least-via-else-l-least, then-level-least+then-setter-f-lt-STAY+then-level-table, else-level-least, else-level-least-via-then-level-least+then-setter-f-lt-STAY+else-level-table, else-level-least-via-then-level-least+else-setter-f-lt-STAY, else-level-least-via-else-level-least}

pub loop-i-init : goal.loop-i-init
loop-i-init c = scan_none _ _

-- a link of less level is taken where it is blocked, and left where not; one of no less level changes nothing
pub loop-i-preserved : goal.loop-i-preserved
loop-i-preserved c =
    let p = c.args.p.now in
    let i = c.loop-i.i in
    let found = c.loop-i.invariant in
    let small : i < 128 = c.loop-i-test.true in
    let here = ap (link_at p.links) c.from.ensures in
    let is = link_blocked (with_setters p c.args.setter.now) c.args.table.now i ∙ ap (is_blocked_link c.args.table.now) (sym here) in
    let more = next_link i in
    elim c.if-l-least.branch [
      | then-l-least+then-is_blocked w ↦
          scan_takes found (link i) more (rw w.found-is refl) (rw w.found-is here) (rw here at w.least-is) (is ∙ sym w.is_blocked.ensures ∙ w.if-is_blocked.true)
          (rw here at w.if-l-least.true)
      | else-l-least w ↦
          elim w.else-l-least.branch [
            | else-l-least-via-then-l-least+else-is_blocked v ↦
                scan_leaves found (link i) more w.found-is w.least-is (is ∙ sym v.is_blocked.ensures ∙ v.if-is_blocked.false)
            | else-l-least-via-else-l-least v ↦
                scan_keeps found (link i) more w.found-is w.least-is (omega (arith, link_level p i c.requires small)) (rw here at v.if-l-least.false)
          ]
    ]

pub loop-f-init : goal.loop-f-init
loop-f-init c = stays_start (omega arith) c.loop-i.invariant

-- a stay of less level is taken where it waits and its field is stronger, and left where it is not or where it sets its field
pub loop-f-preserved : goal.loop-f-preserved
loop-f-preserved c =
    let p = c.args.p.now in
    let setter = c.args.setter.now in
    let table = c.args.table.now in
    let f = c.loop-f.f in
    let found = c.loop-f.invariant in
    let legal = c.requires in
    let small : f < p.size = c.loop-f-test.true in
    let field : f < 64 = omega (arith, legal.few) in
    let q = with_setters p setter in
    let more = next_stay f in
    elim c.if-level-least.branch [
      | then-level-least+then-setter-f-lt-STAY+then-level-table w ↦
          scan_takes found (stay f) more (rw w.found-is refl) (rw w.found-is tt) w.least-is
          (stay_over q table f small field w.if-setter-f-lt-STAY.true w.if-level-table.true) w.if-level-least.true
      | else-level-least w ↦
          elim w.else-level-least.branch [
            | else-level-least-via-then-level-least+then-setter-f-lt-STAY+else-level-table v ↦
                scan_leaves found (stay f) more w.found-is w.least-is (stay_under q table f small field v.if-level-table.false)
            | else-level-least-via-then-level-least+else-setter-f-lt-STAY v ↦
                scan_leaves found (stay f) more w.found-is w.least-is (stay_sets q table f small field v.if-setter-f-lt-STAY.false)
            | else-level-least-via-else-level-least v ↦
                scan_keeps found (stay f) more w.found-is w.least-is (omega (arith, legal.place_small f small)) v.if-level-least.false
          ]
    ]

pub returns : goal.returns
returns c = scan_done (omega arith) c.loop-f.invariant
