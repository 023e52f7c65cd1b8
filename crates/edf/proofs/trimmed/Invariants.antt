-- `edf::trimmed` meets its contract. The loop's invariant: the text without its trailing spaces is that of the field; a space at the end plays no part
-- (`dropped_space`), and behind another character nothing is dropped (`dropped_end`). The measure is how long the text is.
use Rattle.std.proofs.Common.{◌≡◌, length}
use Rattle.edf.specs.Texts.{dropped}
use Rattle.edf.proofs.trimmed.Given as goal

abbrev pub invariant-loop-text : goal.invariant-loop-text
invariant-loop-text l = dropped l.text ≡ dropped l.field

abbrev pub decreases-loop-text : goal.decreases-loop-text
decreases-loop-text l = length l.text
