-- What the steps of the plan ensure.
use Rattle.std.specs.Prelude.{ℕ, ◌<◌, ◌≡◌, true, false, not, ◌&&◌, cond, List, ltb}
use Rattle.fieldset.specs.Tables.{at}
use Rattle.fieldset.specs.Fields.{member, meets, filter}

-- a table after `put` was done to the entries of the fields of a set
pub record Mapped (put : ℕ → ℕ) (set : ℕ) (before after : List ℕ) : Type 0 where
  pub each : (g : ℕ) → g < 64 → at after g ≡ cond (member set g) (put (at before g)) (at before g)

-- a table after the entries of the fields of a set were changed, each of them as `changes` says of the field, what the entry was and what it became
pub record MappedBy (changes : ℕ → ℕ → ℕ → Type 0) (set : ℕ) (before after : List ℕ) : Type 0 where
  pub changed : (g : ℕ) → g < 64 → member set g ≡ true → changes g (at before g) (at after g)
  pub kept : (g : ℕ) → g < 64 → member set g ≡ false → at after g ≡ at before g

-- the readers of each field among the first n fields
pub record Readers (reads : ℕ → ℕ) (n : ℕ) (readers : List ℕ) : Type 0 where
  pub each : (g j : ℕ) → g < 64 → j < 64 → member (at readers g) j ≡ (ltb j n && member (reads j) g)

-- those fields of a set that read nothing of what is left
abbrev pub ready_of : (ℕ → ℕ) → ℕ → ℕ → ℕ
ready_of reads set left = filter (λ f. not (meets (reads f) left)) set
