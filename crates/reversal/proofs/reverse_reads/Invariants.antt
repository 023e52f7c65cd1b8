-- `reversal::reverse_reads` meets its contract. The loop's invariant: the reversal of what is left of the path gives that of the whole. A round is one
-- step of the definition (`reads_next`); with no field left it gives the table (`reads_end`).
use mathlib.Core.Path.{◌≡◌}
use lib.ListN.{drop}
use Rattle.reversal.specs.Reversals.{reversed_reads}
use Rattle.reversal.proofs.reverse_reads.Given as goal

abbrev pub invariant-loop-field : goal.invariant-loop-field
invariant-loop-field l = reversed_reads l.reads l.cover (drop l.field-index l.field-items) ≡ reversed_reads l.initial.reads l.covered l.field-items
