-- `hexadecimal::byte` meets its contract: the two values are `value`'s, and each is below 16 (`digit_below`), so that nothing is above 255. Assumes nothing.
use native.Mathlib.Omega.{arith}
use Rattle.hexadecimal.proofs.Digits.{digit_below}
use Rattle.hexadecimal.proofs.byte.Goals as goal

pub overflow_mul-result : goal.overflow_mul-result
overflow_mul-result c = omega (arith, digit_below _ c.requires.0)

pub overflow_add-result : goal.overflow_add-result
overflow_add-result c = omega (arith, digit_below _ c.requires.0, digit_below _ c.requires.1)
