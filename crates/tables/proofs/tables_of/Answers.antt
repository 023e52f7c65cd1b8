use Prim.Native.Nat.{◌+◌}
use mathlib.Core.Path.{refl, ap}
use native.Mathlib.Omega.{arith}
use Rattle.panel.specs.Items.{link_at}
use Rattle.tables.proofs.Settings.{entry_setting, tabled_set}
use Rattle.tables.proofs.tables_of.Goals as goal

pub loop-f-preserved : goal.loop-f-preserved
loop-f-preserved c =
    let f = c.loop-f.f in
    rw c.enter.ensures
    (tabled_set _ _ f (f + 1) f _ _ _ c.loop-f-test.true (λ g x y z l ne. (omega arith, λ s. s))
    (entry_setting _ f _ _ _ _ refl (ap (link_at c.args.p.now.links) c.from.ensures) refl c.setter_entry-e.ensures) c.loop-f.invariant)
