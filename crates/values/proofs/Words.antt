-- Laws of values as numbers of 32 bits: each is the other's inverse. Assumes nothing.
use Prim.Native.Nat.{ℕ, suc, ◌-◌, ◌<◌}
use mathlib.Core.Path.{◌≡◌, refl, ap}
use mathlib.Core.Bool.{Bool, true, false, cond}
use native.Mathlib.Omega.{arith}
use borrow.Author.Tests.{lt-ltb, le-ltb}
use lib.Dec.{ltb}
use lib.IntN.{ℤ, pos, negsuc}
use mir.Syntax.{w32}
use mir.Val.{SFits, to_z, of_z, sel}
use Rattle.values.specs.Words.{value_of, bits_of}

-- std's casts between 32 bits with a sign and without one
pub signed_value : (n : ℕ) → to_z w32 n ≡ value_of n
unfolding value_of
signed_value n = go (ltb n 2147483648)
  where
    go : (b : Bool) → sel b (pos n) (negsuc (4294967296 - suc n)) ≡ cond b (pos n) (negsuc (4294967295 - n))
    go true = refl
    go false = ap negsuc (omega arith)

pub unsigned_bits : (z : ℤ) → of_z w32 z ≡ bits_of z
unfolding bits_of
unsigned_bits (pos n) = refl
unsigned_bits (negsuc n) = omega arith

pub bits_small : (z : ℤ) → SFits w32 z → bits_of z < 4294967296
unfolding bits_of
bits_small (pos n) h = omega (arith, h.sfits)
bits_small (negsuc n) h = omega arith

-- ---- each is the other's inverse

pub value_bits : (z : ℤ) → SFits w32 z → value_of (bits_of z) ≡ z
unfolding value_of bits_of
value_bits (pos n) h = rw (lt-ltb n 2147483648 h.sfits)
value_bits (negsuc n) h = rw (le-ltb (4294967295 - n) 2147483648 (omega (arith, h.sfits))) (ap negsuc (omega (arith, h.sfits)))
