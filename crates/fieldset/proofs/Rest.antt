-- What is left of the first n entries of a buffer behind i of them: the next entry and the rest behind it, or nothing.
use Prim.Native.Nat.{ℕ, ◌+◌, ◌≤◌, ◌<◌}
use mathlib.Core.Path.{◌≡◌, ◌∙◌}
use mathlib.Core.List.{List, [], ◌∷◌}
use native.Mathlib.Numerals.{add-one}
use lib.ListN.{length, take, drop, drop_of_length-le}
use lib.Seq.{drop-cons, get_or-take, length-take-le}
use Rattle.fieldset.specs.Tables.{at}

abbrev pub rest : ℕ → List ℕ → ℕ → List ℕ
rest n path i = drop i (take n path)

pub rest_next : (n i : ℕ) (path : List ℕ) → i < n → n ≤ length path → rest n path i ≡ at path i ∷ rest n path (i + 1)
rest_next n i path l h =
    drop-cons (take n path) i 0 (rw (length-take-le n path h) l) ∙ rw (get_or-take n path i 0 l, add-one i)

pub rest_end : (n i : ℕ) (path : List ℕ) → n ≤ i → n ≤ length path → rest n path i ≡ []
rest_end n i path l h = drop_of_length-le (take n path) {i = i} (rw (length-take-le n path h) l)
