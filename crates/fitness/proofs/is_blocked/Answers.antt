-- `fitness::is_blocked` meets its contract: the scan reads the panel's strengths, so what it finds is the panel's least blocked item.
use mathlib.Core.Path.{refl, ◌∙◌}
use Rattle.tables.proofs.Agreement.{panel_acyclic}
use Rattle.fitness.proofs.Fitting.{found_some}
use Rattle.fitness.proofs.is_blocked.Goals as goal

pub strengths-requires : goal.strengths-requires
strengths-requires c = (panel_acyclic c.args.p.now c.requires.0 _ _ _ c.requires.1, refl)

pub returns : goal.returns
returns c =
    c.is_some.ensures
    ∙ found_some c.args.p.now c.requires.0 _ _ _ c.requires.1 _ _ c.strengths.ensures.table_after c.find_blocked.result c.find_blocked.ensures
