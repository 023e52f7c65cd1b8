use mathlib.Core.Path.{refl}
use Rattle.ordering.proofs.Readers.{mapping_step, mapping_end}
use Rattle.ordering.proofs.map_entries.Goals as goal

pub loop-g-preserved : goal.loop-g-preserved
loop-g-preserved g c =
    let (U, q) = c.in-Some.ensures.steps in
    mapping_step c.loop-g.invariant U c.put.ensures refl q

pub returns : goal.returns
returns g c = mapping_end c.loop-g.invariant c.in-None.ensures.steps.0
