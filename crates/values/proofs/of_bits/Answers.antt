-- `values::of_bits` meets its contract: std's cast gives the value of the number that it is given (`signed_value`), which is `n`.
use mathlib.Core.Path.{ap, ◌∙◌}
use native.Mathlib.Omega.{arith}
use mir.Syntax.{w32}
use mir.Val.{SFits}
use mir.Facts.{to_z-of_z}
use Rattle.values.specs.Words.{value_of}
use Rattle.values.proofs.Words.{signed_value}
use Rattle.values.proofs.of_bits.Goals as goal

pub returns : goal.returns
returns c =
    let fits : SFits w32 c.cast_signed.result = record { sfits = c.cast_signed.type_inv } in
    to_z-of_z fits ∙ c.cast_signed.ensures ∙ signed_value _ ∙ ap value_of (omega (arith, c.ranges.n.fits))
