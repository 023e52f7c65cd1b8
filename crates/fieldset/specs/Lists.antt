-- Lists: members, what all entries have, entries that stand once, the entries that pass a test, and places.
use Rattle.std.specs.Prelude.{ℕ, suc, ◌≡◌, ◌≢◌, ◌⊎◌, Bool, cond, List, [], ◌∷◌, eqb}

-- x stands in the list
abbrev pub In : {A : Type 0} → A → List A → Type 0
In x [] = ⊥
In x (y ∷ ys) = (x ≡ y) ⊎ In x ys

-- every entry of the list has the property
abbrev pub All : {A : Type 0} → (A → Type 0) → List A → Type 0
All P [] = Unit {0}
All P (x ∷ xs) = P x × All P xs

-- no entry stands twice
abbrev pub Distinct : {A : Type 0} → List A → Type 0
Distinct [] = Unit {0}
Distinct (x ∷ xs) = All (λ y. x ≢ y) xs × Distinct xs

-- the entries that pass the test
unfoldable pub passing : {A : Type 0} → (A → Bool) → List A → List A
passing q [] = []
passing q (x ∷ xs) = cond (q x) (x ∷ passing q xs) (passing q xs)

-- the place of f in the list, from 0; the list's length where f is not in it
unfoldable pub place : List ℕ → ℕ → ℕ
place [] f = 0
place (g ∷ gs) f = cond (eqb g f) 0 (suc (place gs f))
