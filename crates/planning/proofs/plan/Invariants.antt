-- `planning::plan` meets its contract. An unopened panel is refused (`plan_closed`). Else the fields of the plan are listed (`listing`) and their
-- rows written one by one. The loop's invariant (`Written`): the rows of the first i fields stand at the start of the buffer, whose bytes behind are
-- as they were. With all of them written the reply and the rows are the plan's (`plan_done`).
use Rattle.planning.proofs.Rows.{Written}
use Rattle.planning.proofs.plan.Given as goal

abbrev pub invariant-loop-i : goal.invariant-loop-i
invariant-loop-i l = Written l.p.setter l.table l.f-items l.initial.rows l.rows l.i
