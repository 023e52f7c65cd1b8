use mathlib.Core.Path.{◌≡◌, refl, ◌∙◌}
use native.Mathlib.Omega.{arith}
use lib.ListN.{take}
use Rattle.panel.specs.Solution.{plan_of}
use Rattle.tables.proofs.Agreement.{panel_acyclic, panel_among, panel_table, table_strengths}
use Rattle.planning.proofs.Rows.{rows, written_more}
use Rattle.planning.proofs.Planned.{plan_listed, plan_fields, plan_closed, plan_done}
use Rattle.planning.proofs.plan.Goals as goal
use Rattle.planning.proofs.plan.Goals.{After-order-count}

-- the plan is listed
listing : (c : goal.After-order-count) → take c.order-count.result c.order-count.new.out ≡ plan_of c.args.p.now
listing c = plan_listed c.args.p.now c.requires.0 _ _ _ c.requires.1 _ _ _ c.order-count.ensures.0 c.order-count.ensures.1

pub returns-then-n-eq0 : goal.returns-then-n-eq0
returns-then-n-eq0 c = plan_closed c.args.p.now _ c.if-n-eq0.true

pub strengths-requires : goal.strengths-requires
strengths-requires c = (panel_acyclic c.args.p.now c.requires.0 _ _ _ c.requires.1, refl)

pub order-count-requires : goal.order-count-requires
order-count-requires c = (panel_among c.args.p.now c.requires.0 _ _ _ c.requires.1, refl)

pub loop-i-init : goal.loop-i-init
unfolding rows
loop-i-init c = record { low = plan_fields c.args.p.now c.requires.0 _ (listing (goal.at.loop-i-init c).After-order-count); stored = refl }

pub loop-i-preserved : goal.loop-i-preserved
loop-i-preserved c = written_more c.loop-i.invariant _ _ c.loop-i-test.true c.from-k.ensures c.put_row.ensures

pub returns : goal.returns
returns c =
    let p = c.args.p.now in
    plan_done p _ _ _ _ c.loop-i.i c.requires.0 (omega (arith, c.if-n-eq0.false))
    (table_strengths p _ _ (c.strengths.ensures.table_after ∙ panel_table p c.requires.0 _ _ _ c.requires.1 _))
    (listing (goal.at.returns c).After-order-count) c.loop-i.invariant c.loop-i-test.false
