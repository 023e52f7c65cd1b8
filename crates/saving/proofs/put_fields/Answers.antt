use native.Mathlib.Omega.{arith}
use Rattle.images.specs.Images.{field_bytes}
use Rattle.saving.proofs.Writing.{growing_none, growing_on, growing_all, digits_none, digits_more, piece_short}
use Rattle.saving.proofs.put_fields.Goals as goal

pub loop-f-init : goal.loop-f-init
loop-f-init c = growing_none _ _ _ _ (digits_none _)

pub loop-f-preserved : goal.loop-f-preserved
loop-f-preserved c = growing_on (digits_more _ _) (piece_short _ _ _) c.loop-f.invariant c.put_field-q.ensures

pub returns : goal.returns
unfolding field_bytes
returns c = (growing_all (omega arith) c.loop-f.invariant).wrote
