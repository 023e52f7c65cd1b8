-- `lines::line_end` meets its contract. The loop's invariant: from the position on the line ends where it does from the start on, and the position is
-- not past both the start and the text's end. By cases on the character: `length_stop`, `length_on`; at the text's end `length_end`.
use mathlib.Core.Path.{◌≡◌}
use Prim.Native.Nat.{◌+◌, ◌≤◌, max}
use lib.ListN.{length, drop}
use Rattle.lines.specs.Lines.{line_length}
use Rattle.lines.proofs.line_end.Given as goal

abbrev pub invariant-loop-i : goal.invariant-loop-i
invariant-loop-i l = (l.i ≤ max l.from (length l.text)) × (l.i + line_length (drop l.i l.text) ≡ l.from + line_length (drop l.from l.text))
