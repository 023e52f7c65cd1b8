-- What taking a step asks of the tables.
use Rattle.std.specs.Prelude.{ℕ, ◌<◌, ◌≡◌, ◌⊎◌, List, length}
use Rattle.fieldset.specs.Tables.{at}
use Rattle.panel.specs.declared.Standing.{Standing}
use Rattle.panel.specs.declared.Standing.TheVariants.{Holding}
use Rattle.panel.specs.declared.Panel.{Panel}
use Rattle.tables.specs.Tables.{Setting}

-- the tables are the panel's own, but for the field that a dropped link held
pub record TabledBut (p : Panel) (freed : Standing) (levels others reads : List ℕ) : Type 0 where
  pub levels_full : length levels ≡ 64
  pub others_full : length others ≡ 64
  pub reads_full : length reads ≡ 64
  pub field : (v : ℕ) → freed ≡ Holding v → v < 64
  pub setting : (f : ℕ) → f < 64 → (freed ≡ Holding f) ⊎ Setting p f (at levels f) (at others f) (at reads f)
