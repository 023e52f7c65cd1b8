-- `reversal::path_fields` meets its contract. The loop's invariant: the set has the fields of the path that are done. A round puts in one field more
-- (`fields_more`).
use mathlib.Core.Path.{◌≡◌}
use lib.ListN.{take}
use Rattle.reversal.specs.Reversals.{fields_of}
use Rattle.reversal.proofs.path_fields.Given as goal

abbrev pub invariant-loop-f : goal.invariant-loop-f
invariant-loop-f l = l.set ≡ fields_of (take l.f-index l.f-items)
