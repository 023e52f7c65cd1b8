use Rattle.keeping.proofs.Repairing.{repaired_less, right_all}
use Rattle.keeping.proofs.repair.Goals as goal

pub loop-left-smaller : goal.loop-left-smaller
loop-left-smaller c =
    let p = c.requires in
    repaired_less p.n_bound.0 p.n_bound.1 c.loop-left.invariant.0 c.loop-left-test.true c.pass-left.ensures

pub returns : goal.returns
returns c = right_all c.loop-left.invariant.1 c.loop-left-test.false
