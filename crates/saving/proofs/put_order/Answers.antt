use native.Mathlib.Omega.{arith}
use Rattle.saving.proofs.Writing.{growing_none, growing_on, growing_all, table_none, table_more, byte_short, order_written}
use Rattle.saving.proofs.put_order.Goals as goal

pub loop-p-init : goal.loop-p-init
loop-p-init c =
    (growing_none _ _ _ _ (table_none _), omega (arith, c.put_byte-q.ensures.position, byte_short 0x0B))

pub loop-p-preserved : goal.loop-p-preserved
loop-p-preserved c =
    (growing_on (table_more _ _ _ c.field_at.ensures) (byte_short _) c.loop-p.invariant.0 c.put_byte-q-in-loop-p.ensures, c.loop-p.invariant.1)

pub returns : goal.returns
returns c = order_written _ _ c.put_byte-q.ensures (growing_all (omega arith) c.loop-p.invariant.0) c.put_lf.ensures
