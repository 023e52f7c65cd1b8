-- What is known of a link in force, by cases on its use and its standing. But for the computed items, nothing else looks into the definition.
use Prim.Native.Nat.{ℕ}
use mathlib.Core.Path.{◌≡◌, refl}
use mathlib.Core.Bool.{true, false}
use Rattle.panel.specs.declared.Standing.{Standing}
use Rattle.panel.specs.declared.Standing.TheVariants.{Waiting, Holding}
use Rattle.panel.specs.declared.Link.{Link}
use Rattle.panel.specs.Items.{is_in_force}

module _ (l : Link) where
  -- its number is in use
  pub force_used : is_in_force l ≡ true → l.used ≡ true
  unfolding is_in_force
  force_used e = e

  pub unused_off : l.used ≡ false → is_in_force l ≡ false
  unfolding is_in_force
  unused_off e = e

  -- a link that waits, and one that holds a field, is in force
  pub waiting_force : l.used ≡ true → l.standing ≡ Waiting → is_in_force l ≡ true
  unfolding is_in_force
  waiting_force e s = e

  pub holding_force : (f : ℕ) → l.used ≡ true → l.standing ≡ Holding f → is_in_force l ≡ true
  unfolding is_in_force
  holding_force f e s = e

-- so a link whose number is in use is
pub used_force : (l : Link) → l.used ≡ true → is_in_force l ≡ true
used_force l e = go l.standing refl
  where
    go : (s : Standing) → l.standing ≡ s → is_in_force l ≡ true
    go Waiting is = waiting_force l e is
    go (Holding f) is = holding_force l f e is
