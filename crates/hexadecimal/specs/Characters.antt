-- Quoted texts as characters, which are numbers.
use Rattle.std.specs.Prelude.{ℕ, List}
use Prim.Native.Char.{code}
use Prim.Native.String.{String, [], ◌∷◌}

unfoldable pub characters : String → List ℕ
characters [] = List.[]
characters (c ∷ s) = List.◌∷◌ (code c) (characters s)
