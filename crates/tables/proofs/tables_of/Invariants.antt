-- `tables::tables_of` meets its contract. The loop's invariant (`TabledTo`): the entries of the first f fields are the panel's. The next field's entry is
-- its setter's (`entry_setting`), and its stores leave the other entries (`tabled_set`).
use Rattle.tables.specs.Tables.{TabledTo}
use Rattle.tables.proofs.tables_of.Given as goal

abbrev pub invariant-loop-f : goal.invariant-loop-f
invariant-loop-f l = TabledTo l.f l.p l.tables.levels l.tables.others l.tables.reads
