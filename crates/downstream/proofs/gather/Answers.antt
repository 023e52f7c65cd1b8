use Rattle.downstream.proofs.Gathering.{gathering_start, gathering_step, gathering_end}
use Rattle.downstream.proofs.gather.Goals as goal

pub loop-f-init : goal.loop-f-init
loop-f-init c =
    rw (c.into_iter-f-iterator.ensures.into_iter_gives, c.fields_of-f-items.ensures) (gathering_start c.ranges.set.fits)

pub loop-f-preserved : goal.loop-f-preserved
loop-f-preserved c =
    let (U, q) = c.in-Some.ensures.steps in
    gathering_step c.loop-f.invariant U c.union-out.ensures q

pub returns : goal.returns
returns c = gathering_end c.loop-f.invariant c.in-None.ensures.steps.0
