-- `deciding::changed` meets its contract: a line that asks no change leaves all as it was; the frame of a change reaches its field bytes (`Framed`).
use mathlib.Core.Logic.{inr}
use native.Mathlib.Omega.{arith}
use Rattle.deciding.proofs.changed.Goals as goal

pub tail-requires : goal.tail-requires
tail-requires c = let f = c.requires.2 in (omega (arith, f.reaches _ _ (inr c.in-Change.is)), f.short)
