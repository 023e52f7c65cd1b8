-- A verdict by its tag, where another tag is refuted by arithmetic.
use Prim.Native.Nat.{ℕ}
use mathlib.Core.Path.{◌≡◌}
use mathlib.Core.Logic.{◌≢◌, ◌⊎◌, ⊎_elim}
use native.Mathlib.Omega.{arith}
use denote.Enum.Declared.{tag_of}
use Rattle.reversal.specs.declared.Verdict.{Verdict}
use Rattle.reversal.specs.contracts.Verdict.{the_type}
use Rattle.reversal.specs.declared.Verdict.TheVariants.{Free, Looped, Path}

-- a verdict that is no loop
pub no_loop : (t : Verdict) → (tag_of the_type t ≡ 0) ⊎ (tag_of the_type t ≡ 2) → t ≢ Looped
no_loop Free h e = let z : ◌≡◌ {A = ℕ} 0 1 = cc in omega arith
no_loop Looped h e = ⊎_elim (λ e. omega arith) (λ e. omega arith) h
no_loop (Path k m) h e = let z : ◌≡◌ {A = ℕ} 0 1 = cc in omega arith
