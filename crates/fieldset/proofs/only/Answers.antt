-- `fieldset::only` meets its contract: by the law `shl_only`.
use Rattle.fieldset.proofs.Bits.{shl_only}
use Rattle.fieldset.proofs.only.Goals as goal

pub returns : goal.returns
returns c = shl_only c.args.i c.requires
