-- The limits of a value (document 02, request 2): "whole-number values from −2,147,483,648 to 2,147,483,647".
use Rattle.std.specs.Prelude.{ℕ, Bool, ◌||◌, cond, List, [], ◌∷◌, ℤ, pos, negsuc, get_or, Option, Some, None}
use Rattle.std.specs.Int.Signed.{lt_z}

-- the value at a place of a table
abbrev pub value_at : List ℤ → ℕ → ℤ
value_at values f = get_or values f (pos 0)

-- −2,147,483,648 and 2,147,483,647
abbrev pub least : ℤ
least = negsuc 2147483647

abbrev pub greatest : ℤ
greatest = pos 2147483647

-- "a result outside the limits"
abbrev pub outside : ℤ → Bool
outside z = lt_z z least || lt_z greatest z

-- what is answered of a result that is held to the limits, by its values: the result, and none where it is outside
abbrev pub limited_values : Option ℤ → List ℤ
limited_values (Some x) = x ∷ []
limited_values None = []

unfoldable pub limited : ℤ → List ℤ
limited z = cond (outside z) [] (z ∷ [])
