-- `values::ratio` meets its contract: the magnitude is rounded and the sign kept (`scaled_signed`), and the result is held to the limits.
use mathlib.Core.Path.{ap, ◌∙◌}
use mir.Syntax.{w64}
use mir.Val.{SFits}
use mir.Facts.{to_z-of_z}
use Rattle.values.specs.Limits.{limited}
use Rattle.values.proofs.Ratios.{scaled_signed}
use Rattle.values.proofs.ratio.Goals as goal

pub returns : goal.returns
returns c =
    let k : SFits w64 c.signed.result = record { sfits = c.signed.type_inv } in
    c.limit.ensures
    ∙ ap limited
    (to_z-of_z k
    ∙ c.signed.ensures
    ∙ rw (to_z-of_z c.ranges.v, c.rounded.ensures.0, c.unsigned_abs.ensures.value, to_z-of_z c.ranges.v)
    (scaled_signed c.args.v c.args.p c.args.q))
