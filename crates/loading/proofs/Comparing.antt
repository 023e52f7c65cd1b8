-- Two texts are compared as `==` compares them.
use Prim.Native.Nat.{ℕ}
use mathlib.Core.Path.{◌≡◌, refl, sym, ◌∙◌}
use mathlib.Core.Bool.{Bool, true, false}
use mathlib.Core.List.{List}
use Rattle.std.specs.Bool.{Decides}
use Rattle.images.specs.Reading.{same}
use Rattle.images.proofs.Reading.{same_equal, same_self}

pub compared : (a b : List ℕ) (r : Bool) → Decides r (a ≡ b) → r ≡ same a b
compared a b r d = go r (same a b) refl refl
  where
    go : (x y : Bool) → r ≡ x → same a b ≡ y → x ≡ y
    go true y e f = sym (rw (d.0 e) (same_self b)) ∙ f
    go false true e f = sym e ∙ d.1 (same_equal a b f)
    go false false e f = refl
