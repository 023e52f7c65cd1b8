-- `removing::settle` meets its contract. The scan without the link that sets v (`removal`) finds the blocked item of least level (`choice`); what is
-- decided for it (`settles`), or that nothing is blocked (`settles_free`), is the step of the removal or its refusal.
use mathlib.Core.Path.{◌≡◌, refl}
use lib.ListN.{length}
use borrow.Author.Rules.{rules}
use Rattle.removing.proofs.Removed.{removal, Choice, of_field, choice, scan_counts_lem, scan_finds, undecided, settles, settles_free}
use Rattle.removing.proofs.settle.Goals as goal
use Rattle.removing.proofs.settle.Goals.{After-choose-b}

-- what the scan finds, as it is chosen
chosen : (c : After-choose-b) → let w = c.choose-b.result in Choice (removal c.requires) w.number w.outputs w.covered
chosen c =
    let e = c.scan_without-found.ensures in
    choice (removal c.requires) c.choose-b.result _ c.choose-b.ensures (rw c.in-Some.is at (scan_finds (removal c.requires) refl e.scanned e.tabled))

pub returns-in_default-clause-settles : goal.returns-in_default-clause-settles
returns-in_default-clause-settles c =
    let e = c.scan_without-found.ensures in
    let full : length c.args.path.now ≡ 64 = search rules in
    settles_free (removal c.requires) (rw c.in_default.is at (scan_finds (removal c.requires) refl e.scanned e.tabled)) 128 _ full

pub returns-in_default-clause-worked_after : goal.returns-in_default-clause-worked_after
returns-in_default-clause-worked_after c =
    let e = c.scan_without-found.ensures in scan_counts_lem (removal c.requires) refl e.scanned e.tabled

pub choose-b-requires : goal.choose-b-requires
choose-b-requires c =
    let e = c.scan_without-found.ensures in
    of_field (removal c.requires) _ (rw c.in-Some.is at (scan_finds (removal c.requires) refl e.scanned e.tabled))

pub decide-verdict-requires : goal.decide-verdict-requires
decide-verdict-requires c =
    let e = c.scan_without-found.ensures in
    let full : length c.args.path.now ≡ 64 = search rules in
    undecided (removal c.requires) refl e.scanned e.tabled _ _ _ (chosen (goal.at.decide-verdict-requires c).After-choose-b) _ _ _ c.below.ensures
    c.top_of-top.ensures full

pub returns-clause-settles : goal.returns-clause-settles
returns-clause-settles c =
    let e = c.scan_without-found.ensures in
    settles (removal c.requires) refl e.scanned e.tabled _ _ _ (chosen (goal.at.returns-clause-settles c).After-choose-b) _ _ c.top_of-top.ensures
    c.decide-verdict.result c.decide-verdict.ensures.decided

pub returns-clause-worked_after : goal.returns-clause-worked_after
returns-clause-worked_after c =
    let e = c.scan_without-found.ensures in scan_counts_lem (removal c.requires) refl e.scanned e.tabled
