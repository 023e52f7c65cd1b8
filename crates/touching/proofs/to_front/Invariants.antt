-- `touching::to_front` meets its contract. The loop's invariant (`mapped`, of `fieldset`): of the places that are done those before f's are one further,
-- and all others are as they were. With f's own place 0 they are the definition's (`front_set`).
use mathlib.Core.Path.{◌≡◌}
use Rattle.fieldset.proofs.Maps.{mapped}
use Rattle.touching.proofs.Places.{pushed_at}
use Rattle.touching.proofs.to_front.Given as goal

abbrev pub invariant-loop-x : goal.invariant-loop-x
invariant-loop-x l = l.place ≡ mapped (pushed_at l.at) l.initial.place l.x-index
