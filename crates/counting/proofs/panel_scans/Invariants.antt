-- `counting::panel_scans` meets its contract. The loop's invariant is `Counted`, with room for one longest reply, so that a round is one line; its
-- measure is what is left of the text.
use Prim.Native.Nat.{◌-◌}
use mathlib.Core.Path.{◌≡◌}
use lib.ListN.{length}
use Rattle.replies.specs.Replies.{longest}
use Rattle.counting.proofs.Counting.{Counted}
use Rattle.counting.proofs.panel_scans.Given as goal

abbrev pub invariant-loop-at : goal.invariant-loop-at
invariant-loop-at l = (length l.out ≡ longest) × Counted l.text l.initial.counts l.counts l.at l.s l.made

abbrev pub decreases-loop-at : goal.decreases-loop-at
decreases-loop-at l = length l.text - l.at
