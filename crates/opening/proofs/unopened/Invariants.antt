-- `opening::unopened` meets its contract. The loop's invariant (`mapped`, of `fieldset`): the first f places are their fields' numbers. The panel of
-- these parts is the unopened one (`made_unopened`).
use mathlib.Core.Path.{◌≡◌}
use Rattle.fieldset.proofs.Maps.{mapped}
use Rattle.opening.proofs.unopened.Given as goal

abbrev pub invariant-loop-f : goal.invariant-loop-f
invariant-loop-f l = l.place ≡ mapped (λ g x. g) l.initial.place l.f
