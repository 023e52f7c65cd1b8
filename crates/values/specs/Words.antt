-- A value in "four bytes, two's complement" (document 02, request 2), as one number of 32 bits, and the number of a value.
use Rattle.std.specs.Prelude.{ℕ, ◌-◌, cond, ltb, ℤ, pos, negsuc}

-- below 2 ^ 31 the number itself, from there on 2 ^ 32 less
unfoldable pub value_of : ℕ → ℤ
value_of n = cond (ltb n 2147483648) (pos n) (negsuc (4294967295 - n))

-- the number whose value it is, of a value within the limits
unfoldable pub bits_of : ℤ → ℕ
bits_of (pos n) = n
bits_of (negsuc n) = 4294967295 - n
