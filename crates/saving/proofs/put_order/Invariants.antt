-- `saving::put_order` meets its contract: behind 0B the fields of the places below `p` are written.
use Prim.Native.Nat.{◌+◌, ◌≤◌}
use Rattle.images.specs.Images.{field_at}
use Rattle.saving.proofs.Writing.{Growing, table_to}
use Rattle.saving.proofs.put_order.Given as goal

abbrev pub invariant-loop-p : goal.invariant-loop-p
invariant-loop-p l = Growing (table_to (field_at l.place l.n)) 2 l.initial.out l.initial.q l.out l.q l.p × (l.initial.q ≤ l.at + 2)
