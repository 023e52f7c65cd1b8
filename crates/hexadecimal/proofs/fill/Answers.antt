use native.Mathlib.Omega.{arith}
use Rattle.hexadecimal.proofs.Digits.{digits_at}
use Rattle.hexadecimal.proofs.Lines.{filled_more, filled_all}
use Rattle.hexadecimal.proofs.fill.Goals as goal

pub byte-requires : goal.byte-requires
byte-requires c = (digits_at c.args.s.now _ c.requires.0 (omega arith), digits_at c.args.s.now _ c.requires.0 (omega arith))

pub loop-i-preserved : goal.loop-i-preserved
loop-i-preserved c = filled_more _ _ _ _ _ c.loop-i.invariant (omega arith) (omega arith) c.byte.ensures

pub returns : goal.returns
returns c = filled_all _ _ _ _ c.loop-i.invariant c.told-frame (omega arith)
