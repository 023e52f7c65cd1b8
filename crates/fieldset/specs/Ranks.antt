-- Ranks: numbers that fall along a relation of fields, which therefore has no loop. `next v` is the set of the fields that follow v.
use Rattle.std.specs.Prelude.{ℕ, ◌<◌, ◌≡◌, true}
use Rattle.fieldset.specs.Fields.{member}

-- ranks fall from each field below m to those below m that follow it, and those of the fields below n are below n
pub record Ranked (next : ℕ → ℕ) (m n : ℕ) (rank : ℕ → ℕ) : Type 0 where
  pub falls : (v u : ℕ) → v < m → u < m → member (next v) u ≡ true → rank u < rank v
  pub small : (v : ℕ) → v < n → rank v < n
