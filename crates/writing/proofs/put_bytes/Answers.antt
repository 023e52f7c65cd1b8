use Rattle.writing.proofs.Lines.{written_none, written_more}
use Rattle.writing.proofs.put_bytes.Goals as goal

pub loop-i-init : goal.loop-i-init
loop-i-init c = written_none _ _ _

pub loop-i-preserved : goal.loop-i-preserved
loop-i-preserved c = written_more _ _ _ _ _ _ c.loop-i.invariant c.loop-i-test.true c.put.ensures
