-- `parsing::read_lines` meets its contract: the lines from `from` on enter the rest.
use Prim.Native.Nat.{◌-◌}
use lib.ListN.{length}
use Rattle.parsing.proofs.Entries.{Entering}
use Rattle.parsing.proofs.read_lines.Given as goal

abbrev pub invariant-loop-from : goal.invariant-loop-from
invariant-loop-from l = Entering l.text l.s l.from

abbrev pub decreases-loop-from : goal.decreases-loop-from
decreases-loop-from l = length l.text - l.from
