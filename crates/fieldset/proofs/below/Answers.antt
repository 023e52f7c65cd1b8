-- `fieldset::below` meets its contract: by cases on n < 64, by the laws `shl_below` and `max_below`.
use native.Mathlib.Omega.{arith}
use Rattle.fieldset.proofs.Bits.{shl_pos, shl_below, max_below}
use Rattle.fieldset.proofs.below.Goals as goal

pub overflow_sub-result : goal.overflow_sub-result
overflow_sub-result c = shl_pos c.args.n (omega arith)

pub returns-then-n-lt64 : goal.returns-then-n-lt64
returns-then-n-lt64 c = shl_below c.args.n (omega arith)

pub returns-else-n-lt64 : goal.returns-else-n-lt64
returns-else-n-lt64 c = max_below c.args.n (omega arith)
