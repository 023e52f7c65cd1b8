-- `deciding::rule_after` meets its contract, by cases on the reply and on the command; the frame of a change reaches its field bytes (`Framed`).
use mathlib.Core.Logic.{inr}
use Rattle.deciding.proofs.rule_after.Goals as goal

pub covered_by-requires : goal.covered_by-requires
covered_by-requires c = (c.requires.reaches _ _ (inr c.in-Change.is), c.requires.short)
