use mathlib.Core.Path.{◌≡◌, sym}
use native.Mathlib.Omega.{arith}
use borrow.Author.Rules.{rules}
use lib.ListN.{length}
use Rattle.fieldset.proofs.Maps.{mapped_none, mapped_more}
use Rattle.tables.proofs.stay_levels.Invariants.{by}
use Rattle.tables.proofs.stay_levels.Goals as goal

pub loop-f-init : goal.loop-f-init
loop-f-init c = sym (mapped_none (by c.args.setter.now c.args.place.now) c.args.levels.now)

pub loop-f-preserved : goal.loop-f-preserved
loop-f-preserved c =
    let full : length c.args.levels.now ≡ 64 = search rules in
    mapped_more (by c.args.setter.now c.args.place.now) c.args.levels.now c.loop-f.f _ _ (omega (arith, full, c.loop-f-test.true))
    c.loop-f.invariant c.level_with.ensures
