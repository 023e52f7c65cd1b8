-- `values::bits_of` meets its contract: std's cast gives the number (`unsigned_bits`).
use mathlib.Core.Path.{◌∙◌}
use mir.Facts.{to_z-of_z}
use Rattle.values.proofs.Words.{unsigned_bits}
use Rattle.values.proofs.bits_of.Goals as goal

pub returns : goal.returns
returns c = c.cast_unsigned.ensures ∙ rw (to_z-of_z c.ranges.v) (unsigned_bits c.args.v)
