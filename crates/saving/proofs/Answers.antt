-- The numbers of what saving answers tell its cases apart, since they begin with 00 and with FF.
use Prim.Native.Nat.{ℕ}
use mathlib.Core.Path.{◌≡◌, refl, ap}
use mathlib.Core.List.{List}
use native.Mathlib.Omega.{arith}
use Rattle.std.specs.Prelude.{Option, Some, None}
use Rattle.fieldset.specs.Tables.{at}
use Rattle.saving.specs.Saves.{saved_values}

pub saved_apart : (a b : Option ℕ) → saved_values a ≡ saved_values b → a ≡ b
saved_apart None None e = refl
saved_apart None (Some n) e = let z : ◌≡◌ {A = ℕ} 255 0 = ap (λ (b : List ℕ). at b 0) e in absurd (omega arith)
saved_apart (Some m) None e = let z : ◌≡◌ {A = ℕ} 0 255 = ap (λ (b : List ℕ). at b 0) e in absurd (omega arith)
saved_apart (Some m) (Some n) e = ap Some (ap (λ (b : List ℕ). at b 1) e)
