-- `redrawing::count_reply` meets its contract: a set has at most 64 fields (`size_le`), so that its size fits a byte.
use mathlib.Core.Path.{◌≡◌, sym, ap, ◌∙◌}
use Prim.Native.Nat.{ℕ}
use native.Mathlib.Omega.{arith}
use borrow.Author.Tests.{ne_eqb}
use Rattle.fieldset.specs.Tables.{at}
use Rattle.fieldset.specs.Fields.{union}
use Rattle.fieldset.proofs.Fields.{size_le}
use Rattle.downstream.specs.Downstream.{gathered}
use Rattle.std.specs.Prelude.{Ok}
use Rattle.panel.proofs.Moved.{counted_empty}
use Rattle.redrawing.proofs.count_reply.Goals as goal
use Rattle.redrawing.proofs.count_reply.Goals.{After-union-set}

-- the set that is counted
counts : (c : goal.After-union-set) → let a = c.args in c.union-set.result ≡ union (gathered (at a.down.now) a.changed) a.revalued
counts c = c.union-set.ensures ∙ ap (λ (m : ℕ). union m c.args.revalued) c.gather.ensures

pub returns-then-set-eq0 : goal.returns-then-set-eq0
returns-then-set-eq0 c =
    sym (counted_empty _ _ (sym (counts (goal.at.returns-then-set-eq0 c).After-union-set) ∙ c.if-set-eq0.true))

pub overflow_cast-result : goal.overflow_cast-result
overflow_cast-result c = record { fits = omega (arith, c.size.ensures, size_le c.union-set.result) }

pub returns-in-Ok : goal.returns-in-Ok
returns-in-Ok c =
    rw (← counts (goal.at.returns-in-Ok c).After-union-set, c.in-Ok.is, ne_eqb c.union-set.result 0 c.if-set-eq0.false) (ap Ok c.size.ensures)
