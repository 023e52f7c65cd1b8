-- `wellformed::are_links` meets its contract: the numbers below `i` pass.
use Prim.Native.Nat.{ℕ, ◌<◌}
use mathlib.Core.Path.{◌≡◌}
use mathlib.Core.Bool.{true}
use Rattle.wellformed.specs.Tests.{link_test}
use Rattle.wellformed.proofs.are_links.Given as goal

abbrev pub invariant-loop-i : goal.invariant-loop-i
invariant-loop-i l = (k : ℕ) → k < l.i → link_test l.p l.formulas k ≡ true
