-- `values::rounded` meets its contract: no step of the computation wraps.
use Prim.Native.Nat.{◌*◌}
use mathlib.Core.Path.{refl}
use native.Mathlib.Omega.{arith}
use Rattle.values.specs.Ratios.{rounded}
use Rattle.values.proofs.Ratios.{product_small, rounded_small}
use Rattle.values.proofs.rounded.Goals as goal

pub returns : goal.returns
unfolding rounded
returns c =
    rw (c.from.ensures, c.from-2.ensures, c.from-3.ensures, c.from-4.ensures)
    (refl, omega (arith, product_small c.ranges.n.fits c.ranges.p.fits, rounded_small (c.args.n * c.args.p) c.args.q))
