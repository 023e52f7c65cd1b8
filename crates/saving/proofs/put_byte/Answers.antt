-- `saving::put_byte` meets its contract.
use Rattle.saving.proofs.Writing.{wrote_bytes}
use Rattle.saving.proofs.put_byte.Goals as goal

pub returns : goal.returns
returns c = wrote_bytes _ _ _ _ c.put.ensures
