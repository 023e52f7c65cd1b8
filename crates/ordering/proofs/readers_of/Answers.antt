use Prim.Native.Nat.{ℕ}
use native.Mathlib.Omega.{arith}
use lib.ListN.{length-replicate}
use Rattle.ordering.proofs.Readers.{readers_start, readers_step}
use Rattle.ordering.proofs.readers_of.Goals as goal

pub loop-f-init : goal.loop-f-init
loop-f-init c = (length-replicate {A = ℕ} 64 0, readers_start)

pub loop-f-preserved : goal.loop-f-preserved
loop-f-preserved c =
    let entered = c.enter_readers.ensures in
    (entered.0, readers_step (omega arith) c.loop-f.invariant.1 entered.1)
