-- `fitness::is_unfit` meets its contract: a required link that waits, a loop, else what the scan of a panel that is now legal finds.
use mathlib.Core.Path.{◌≡◌, refl, sym, ◌∙◌}
use mathlib.Core.Bool.{false}
use Rattle.panel.specs.Solution.{is_looped}
use Rattle.images.specs.Reading.{is_short}
use Rattle.fitness.proofs.Fitting.{formed_places, formed_among, looped, loopless, fit_legal, unfit_by_short, unfit_by_loop, unfit_by_scan}
use Rattle.fitness.proofs.is_unfit.Goals as goal
use Rattle.fitness.proofs.is_unfit.Goals.{Else-is_short, Else-order-p}

-- ---- the places: no required link waits, the tables are there, the plan is made

-- no required link waits, and there is no loop
none-short : (c : Else-is_short) → false ≡ is_short c.args.s.now.panel
none-short c = sym c.if-is_short.false ∙ c.is_short.ensures

no_loop : (c : Else-order-p) → is_looped c.args.s.now.panel ≡ false
no_loop c =
    loopless c.args.s.now c.requires _ _ _ c.tables_of-tables.ensures c.order.result c.order.ensures.0 c.if-order-p.false

pub returns-then-is_short : goal.returns-then-is_short
returns-then-is_short c = unfit_by_short c.args.s.now.panel (sym c.if-is_short.true ∙ c.is_short.ensures)

pub tables_of-tables-requires : goal.tables_of-tables-requires
tables_of-tables-requires c = formed_places c.args.s.now c.requires

pub order-requires : goal.order-requires
order-requires c = (formed_among c.args.s.now c.requires _ _ _ c.tables_of-tables.ensures, refl)

pub returns-then-order-p : goal.returns-then-order-p
returns-then-order-p c =
    unfit_by_loop c.args.s.now.panel (looped c.args.s.now c.requires _ _ _ c.tables_of-tables.ensures c.order.result c.order.ensures.0 c.if-order-p.true)

pub is_blocked-requires : goal.is_blocked-requires
is_blocked-requires c =
    (fit_legal c.args.s.now c.requires (none-short (goal.at.is_blocked-requires c).Else-is_short) (no_loop (goal.at.is_blocked-requires c).Else-order-p), c.tables_of-tables.ensures)

pub returns : goal.returns
returns c =
    unfit_by_scan c.args.s.now.panel _ (none-short (goal.at.returns c).Else-is_short) (no_loop (goal.at.returns c).Else-order-p) c.is_blocked.ensures
