-- What the program passes on to be written.
use Rattle.std.specs.Prelude.{ℕ, ◌≡◌, List, length, take, drop}

-- a part of an output: what stands there behind the first `sent` characters
abbrev pub PartOf : List ℕ → ℕ → List ℕ → Type 0
PartOf output sent part = part ≡ take (length part) (drop sent output)
