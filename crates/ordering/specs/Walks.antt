-- Reads among n fields, and walks of reads.
use Rattle.std.specs.Prelude.{ℕ, ◌≤◌, ◌<◌, ◌≡◌, true, List}
use Rattle.fieldset.specs.Tables.{at}
use Rattle.fieldset.specs.Fields.{member}

-- the setter of g reads f, both of n fields
pub record Read (reads : ℕ → ℕ) (n f g : ℕ) : Type 0 where
  pub from : f < n
  pub to : g < n
  pub reads_it : member (reads g) f ≡ true

-- a walk from f to g along at least one read
pub data Walk (reads : ℕ → ℕ) (n : ℕ) : ℕ → ℕ → Type 0 where
  one : {f g : ℕ} → Read reads n f g → Walk reads n f g
  more : {f g h : ℕ} → Walk reads n f g → Read reads n g h → Walk reads n f h

-- "a loop from setter to field to a setter that reads it": a walk that comes back to where it began
pub record ClosedWalk (reads : ℕ → ℕ) (n : ℕ) : Type 0 where
  pub field : ℕ
  pub walk : Walk reads n field field

-- n fields that read only each other
pub record Inside (reads : ℕ → ℕ) (n : ℕ) : Type 0 where
  pub few : n ≤ 64
  pub inside : (g f : ℕ) → g < n → f < 64 → member (reads g) f ≡ true → f < n

-- the same of a table of reads
abbrev pub Among : List ℕ → ℕ → Type 0
Among reads n = Inside (at reads) n
