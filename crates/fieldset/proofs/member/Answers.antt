-- `fieldset::member` meets its contract: by the law `shr_member`.
use Rattle.fieldset.proofs.Bits.{shr_member}
use Rattle.fieldset.proofs.member.Goals as goal

pub returns : goal.returns
returns c = shr_member c.args.m c.args.i
