-- `values::limit` meets its contract: a conversion to 32 bits answers the result where it fits (`limited_ok`).
use mathlib.Core.Path.{ap, ◌∙◌}
use mir.Facts.{to_z-of_z}
use Rattle.values.specs.Limits.{limited_values}
use Rattle.values.proofs.Limits.{limited_ok}
use Rattle.values.proofs.limit.Goals as goal

pub returns : goal.returns
returns c = ap limited_values c.ok.ensures.value ∙ limited_ok c.args.z c.try_from.result (rw (to_z-of_z c.ranges.z) at c.try_from.ensures)
