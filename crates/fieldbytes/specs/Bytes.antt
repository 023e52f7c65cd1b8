-- What the field-byte reader answers.
use Rattle.std.specs.Prelude.{ℕ, ◌≡◌, Bool, not, ◌&&◌, List}
use Rattle.panel.specs.Commands.{has_bit6, any_of, covered_in, outputs_in, is_rising}

-- field bytes read
pub record FieldsOf (bytes : List ℕ) (c o : ℕ) (r : Bool) : Type 0 where
  pub covered : c ≡ covered_in bytes
  pub outputs : o ≡ outputs_in bytes
  pub rising : r ≡ (is_rising bytes && not (any_of has_bit6 bytes))
