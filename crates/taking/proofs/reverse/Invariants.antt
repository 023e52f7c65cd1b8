-- `taking::reverse` meets its contract. First a dropped link's field goes to its stay (`reversing_freed`), or nothing is freed (`reversing_all`). The
-- loop's invariant (`Reversing`): the reversal of what is left of the path, by the item that is carried, gives the whole, and the tables are the
-- panel's. `reversing_next` gives the carried item the next field; at the end it waits (`reversing_ends`).
use Rattle.fieldset.specs.Tables.{at}
use Rattle.panel.specs.Items.{item_of}
use Rattle.panel.specs.Solution.{reversed}
use Rattle.taking.proofs.Reversal.{Reversing}
use Rattle.taking.proofs.reverse.Given as goal

abbrev pub invariant-loop-f : goal.invariant-loop-f
invariant-loop-f l = Reversing l.f-items (reversed l.initial.p (item_of l.initial.c (at l.path 0)) l.f-items) l.p l.c l.f-index l.tables
