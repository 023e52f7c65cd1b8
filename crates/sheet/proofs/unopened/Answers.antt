-- `sheet::unopened` meets its contract: what the opening calls unopened is legal, and so is its sheet (`legal_blank`).
use mathlib.Core.Path.{sym, ap, subst, ◌∙◌}
use Rattle.sheet.specs.Sheets.{blank, unopened}
use Rattle.sheet.specs.Legal.{LegalSheet}
use Rattle.sheet.proofs.Legal.{legal_blank}
use Rattle.sheet.proofs.unopened.Goals as goal

pub returns : goal.returns
returns c =
    let o = c.unopened.ensures in
    (c.blank.ensures ∙ ap blank o.0, subst LegalSheet (sym c.blank.ensures) (legal_blank _ o.1))
