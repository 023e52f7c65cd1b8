-- What the definitions of downstream sets mean: statements that `proofs/` proves for all reads of at most 64 fields, loops or not.
use Rattle.std.specs.Prelude.{ℕ, ◌<◌, ◌≡◌, true, ◌⊎◌}
use Rattle.fieldset.specs.Fields.{member, Within}
use Rattle.ordering.specs.Walks.{Walk}
use Rattle.downstream.specs.Downstream.{spread, downstream}

-- g is downstream of f exactly when there is a walk of reads from f to g
pub record IsWalk (reads : ℕ → ℕ) (n : ℕ) : Type 0 where
  pub to_walk : (f g : ℕ) → f < n → member (downstream reads n f) g ≡ true → Walk reads n f g
  pub of_walk : (f g : ℕ) → Walk reads n f g → member (downstream reads n f) g ≡ true

-- whoever reads a member is a member
pub record Closed (reads : ℕ → ℕ) (n set : ℕ) : Type 0 where
  pub joins : (f g : ℕ) → f < 64 → g < n → member (reads g) f ≡ true → member set f ≡ true → member set g ≡ true

-- `it` is the least set that has the fields of `set` and is closed
pub record Least (reads : ℕ → ℕ) (n set it : ℕ) : Type 0 where
  pub has : Within set it
  pub closed : Closed reads n it
  pub least : (other : ℕ) → Within set other → Closed reads n other → Within it other

-- a field counts exactly when its setter changed or it is a walk of reads away from one whose setter changed
pub record SpreadIsWalk (reads : ℕ → ℕ) (n changed : ℕ) : Type 0 where
  pub to_walk : (g : ℕ) → member (spread reads n changed) g ≡ true → (member changed g ≡ true) ⊎ ((f : ℕ) × (member changed f ≡ true) × Walk reads n f g)
  pub of_changed : (g : ℕ) → g < 64 → member changed g ≡ true → member (spread reads n changed) g ≡ true
  pub of_walk : (f g : ℕ) → member changed f ≡ true → Walk reads n f g → member (spread reads n changed) g ≡ true
