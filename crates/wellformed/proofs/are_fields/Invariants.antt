-- `wellformed::are_fields` meets its contract: the fields below `f` pass.
use Prim.Native.Nat.{ℕ, ◌<◌}
use mathlib.Core.Path.{◌≡◌}
use mathlib.Core.Bool.{true}
use Rattle.wellformed.specs.Tests.{field_test}
use Rattle.wellformed.proofs.are_fields.Given as goal

abbrev pub invariant-loop-f : goal.invariant-loop-f
invariant-loop-f l = (k : ℕ) → k < l.f → field_test l.p l.values k ≡ true
