-- Lines one after the other, whatever each of them does: what the lines of each number carry on holds after the lines of all. By induction. Assumes
-- nothing.
use Prim.Native.Nat.{ℕ, zero, suc, ◌<◌}
use mathlib.Core.Path.{◌≡◌, refl}
use mathlib.Core.List.{List, [], ◌∷◌, ◌++◌}
use native.Mathlib.Omega.{arith}
use Rattle.images.specs.Images.{gather}
use Rattle.images.specs.Entries.{folded}

module _ {S : Type 0} (step : S → List ℕ → S) where
  pub folded_append : (s : S) (a b : List (List ℕ)) → folded step s (a ++ b) ≡ folded step (folded step s a) b
  folded_append s [] b = refl
  folded_append s (x ∷ a) b = folded_append (step s x) a b

  pub folded_gather : (P : ℕ → S → Type 0) (f : ℕ → List (List ℕ)) (n : ℕ) → ((i : ℕ) → i < n → (s : S) → P i s → P (suc i) (folded step s (f i)))
      → (s : S) → P 0 s → P n (folded step s (gather f n))
  unfolding gather
  folded_gather P f zero h s p = p
  folded_gather P f (suc n) h s p =
      rw (folded_append s (gather f n) (f n)) (h n (omega arith) _ (folded_gather P f n (λ i l. h i (omega arith)) s p))
