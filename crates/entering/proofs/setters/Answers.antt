-- `entering::setters` meets its contract. Where setters change, `reverse` makes the panel after the step and its tables, on copies
-- (`taken_reversed`); else they are as they were (`taken_unmoved`).
use mathlib.Core.Path.{refl}
use native.Mathlib.Omega.{arith}
use Rattle.panel.specs.Outcomes.{taken, Takes}
use Rattle.panel.specs.Legal.{Legal}
use Rattle.tables.specs.Tables.{Tabled}
use Rattle.taking.proofs.Taking.{places_taken, taken_reversed, tabled_altered, taken_unmoved}
use Rattle.entering.proofs.Entering.{setters_by}
use Rattle.entering.proofs.setters.Goals as goal

pub stay_levels-requires : goal.stay_levels-requires
stay_levels-requires c = places_taken c.requires.legal_2.1 c.requires.legal_2.0

pub reverse-requires : goal.reverse-requires
reverse-requires c =
    let r = c.requires in
    (r.legal_2.1.path_of, places_taken r.legal_2.1 r.legal_2.0, tabled_altered r.legal_2.1 r.legal_2.0 r.legal.0 (omega arith) r.legal.1 c.stay_levels.ensures)

pub returns : goal.returns
returns c = let r = c.requires in setters_by (taken_reversed r.legal_2.1 r.legal_2.0 c.reverse.ensures.reversed c.reverse.ensures.tabled)

pub returns-then-step-eq0 : goal.returns-then-step-eq0
returns-then-step-eq0 c =
    let r = c.requires in
    setters_by (taken_unmoved r.legal_2.1 r.legal_2.0 r.legal.0 (omega arith) r.legal.1 refl c.if-step-eq0.true)
