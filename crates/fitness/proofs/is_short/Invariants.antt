-- `fitness::is_short` meets its contract: none of the links so far lacks its field.
use Prim.Native.Nat.{ℕ, ◌<◌}
use mathlib.Core.Path.{◌≡◌}
use mathlib.Core.Bool.{false}
use Rattle.fitness.proofs.Fitting.{lacking_at}
use Rattle.fitness.proofs.is_short.Given as goal

abbrev pub invariant-loop-l : goal.invariant-loop-l
invariant-loop-l l = (i : ℕ) → i < l.l-index → lacking_at l.p.links i ≡ false
