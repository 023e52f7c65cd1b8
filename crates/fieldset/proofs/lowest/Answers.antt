-- `fieldset::lowest` meets its contract: by the law `trailing_lowest`; the count fits a usize, since it is at most 64.
use native.Mathlib.Omega.{arith}
use lib.Count.{trailing_le}
use Rattle.fieldset.proofs.Bits.{trailing_lowest}
use Rattle.fieldset.proofs.lowest.Goals as goal

pub overflow_cast-result : goal.overflow_cast-result
overflow_cast-result c = omega (arith, trailing_le 64 c.args.m)

pub returns : goal.returns
returns c = trailing_lowest c.args.m
