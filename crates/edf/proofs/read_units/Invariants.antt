-- `edf::read_units` meets its contract. The loop's invariant is `Counted`: of the units before those that are left none is unclear, and `flows` are
-- airflow.
use Rattle.std.specs.Slice.Iter.{chunks_exact_rest, chunks_exact_size}
use Rattle.edf.proofs.Counting.{Counted}
use Rattle.edf.proofs.read_units.Given as goal

abbrev pub invariant-loop-unit : goal.invariant-loop-unit
invariant-loop-unit l = Counted l.file l.n l.flows (chunks_exact_size l.unit-iterator) (chunks_exact_rest l.unit-iterator)
