-- The number that stands for a text's outcome.
use Rattle.std.specs.Prelude.{ℕ, Option, Some, None}

-- the length of the whole output; 0 for a text that is too long, since an output has at least the tally's line
abbrev pub length_of : Option ℕ → ℕ
length_of (Some n) = n
length_of None = 0
