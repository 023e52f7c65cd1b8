-- Values that change.
use Rattle.std.specs.Prelude.{ℕ, Bool, ◌||◌, List, ℤ}
use Rattle.std.specs.Int.Signed.{lt_z}
use Rattle.fieldset.specs.Fields.{set_of}
use Rattle.values.specs.Limits.{value_at}

-- two values differ: one is less than the other
abbrev pub differ : ℤ → ℤ → Bool
differ a b = lt_z a b || lt_z b a

-- "every field whose value changed" (document 02, request 6), of n fields
unfoldable pub revalued : ℕ → List ℤ → List ℤ → ℕ
revalued n before after = set_of (λ f. differ (value_at before f) (value_at after f)) n
