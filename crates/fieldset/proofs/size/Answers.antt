-- `fieldset::size` meets its contract: by the law `ones_size`; the count fits a usize, since it is at most 64.
use native.Mathlib.Omega.{arith}
use lib.Count.{ones-le}
use Rattle.fieldset.proofs.Bits.{ones_size}
use Rattle.fieldset.proofs.size.Goals as goal

pub overflow_cast-result : goal.overflow_cast-result
overflow_cast-result c = omega (arith, ones-le 64 c.args.m c.ranges.m.fits)

pub returns : goal.returns
returns c = ones_size c.args.m c.ranges.m.fits
