-- `scanning::find_blocked` meets its contract. Each loop's invariant (`Looked`): what is found is the first of least level among the blocked items
-- passed, the links up to i, then all links and the stays up to f, and `least` is its level. An item is taken
-- (`scan_takes`), left as not blocked (`scan_leaves`) or passed over by its level (`scan_keeps`). In the list the links come before
-- the stays.
use Rattle.scanning.specs.Scan.{with_setters}
use Rattle.scanning.proofs.Scan.{Looked, first_links, first_stays}
use Rattle.scanning.proofs.find_blocked.Given as goal

abbrev pub invariant-loop-i : goal.invariant-loop-i
invariant-loop-i l = Looked l.table (with_setters l.p l.setter) (first_links l.i) l.found l.least

abbrev pub invariant-loop-f : goal.invariant-loop-f
invariant-loop-f l = Looked l.table (with_setters l.p l.setter) (first_stays l.f) l.found l.least
