-- `strength::lowest_at` meets its contract: the lowest-numbered of the tied fields is the lowest-numbered field at the strength (`lowest_ties`).
use mathlib.Core.Path.{ap, ◌∙◌}
use Rattle.fieldset.specs.Tables.{at}
use Rattle.fieldset.specs.Fields.{lowest_of}
use Rattle.strength.proofs.Paths.{lowest_ties}
use Rattle.strength.proofs.lowest_at.Goals as goal

pub returns : goal.returns
returns c =
    c.lowest.ensures ∙ ap lowest_of c.tied.ensures ∙ lowest_ties (at c.args.table.now) c.args.s c.args.set
