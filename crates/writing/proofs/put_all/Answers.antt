use mathlib.Core.Path.{refl}
use Rattle.writing.proofs.Lines.{written_none, written_more, byte_put}
use Rattle.writing.proofs.put_all.Goals as goal

pub loop-i-init : goal.loop-i-init
loop-i-init c = written_none _ _ _

pub loop-i-preserved : goal.loop-i-preserved
loop-i-preserved c = written_more _ _ _ _ _ _ c.loop-i.invariant c.loop-i-test.true (byte_put _ _ _ _ _ _ c.digits_of.ensures refl refl)
