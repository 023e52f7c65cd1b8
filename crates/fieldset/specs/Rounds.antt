-- A round over the fields of a set takes the lowest-numbered one that is left.
use Rattle.std.specs.Prelude.{ℕ, ◌≡◌, Option, Some, None}
use Rattle.fieldset.specs.Fields.{without, lowest_of, First}

-- the field that comes next of those of a set, and what is then left of the set: none, where none is left
abbrev pub Takes : ℕ → Option ℕ → ℕ → Type 0
Takes rest None after = (rest ≡ 0) × (after ≡ 0)
Takes rest (Some u) after = First rest u × (after ≡ without rest (lowest_of rest))
