-- `tally::three_bytes` meets its contract: of the four bytes of a number of 32 bits the first is 0 up to the greatest count.
use mathlib.Core.Path.{◌≡◌}
use Prim.Native.Nat.{◌/◌, ◌%◌}
use native.Mathlib.Omega.{arith}
use Rattle.tally.specs.Tallies.{three_bytes}
use Rattle.tally.proofs.three_bytes.Goals as goal

pub returns : goal.returns
unfolding three_bytes
returns c =
    let top : c.min.result / 65536 % 256 ≡ c.min.result / 65536 = omega arith in
    rw (c.to_be_bytes.ensures, top, c.min.ensures)
