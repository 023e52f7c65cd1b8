use Rattle.keeping.proofs.Climbing.{climbing_start, climbing_less, climbing_step, climbing_end}
use Rattle.keeping.proofs.upstream.Goals as goal

pub loop-rest-init : goal.loop-rest-init
loop-rest-init c = climbing_start c.requires.1

pub loop-rest-smaller : goal.loop-rest-smaller
loop-rest-smaller c = climbing_less c.requires.0 c.loop-rest.invariant c.first-f.ensures c.with-seen.ensures

pub loop-rest-preserved : goal.loop-rest-preserved
loop-rest-preserved c =
    climbing_step c.requires.0 c.loop-rest.invariant c.first-f.ensures c.with-seen.ensures
    c.union.ensures c.minus-rest.ensures

pub returns : goal.returns
returns c = climbing_end c.requires.0 c.loop-rest.invariant c.loop-rest-test.false
