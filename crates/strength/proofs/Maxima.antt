-- Laws of `greatest`, the greatest s u of the numbers u below n that pass a test: by induction on n, it is the least bound of all and, above 0,
-- that of one of them. `Topping` is the same for a loop that empties a set: what is done is bounded by the greatest so far, which is no more than
-- the whole's.
use Prim.Native.Nat.{ℕ, zero, suc, ◌≤◌, ◌<◌, max, zero-le}
use mathlib.Core.Path.{◌≡◌, refl, ap, ap₂, ◌∙◌}
use mathlib.Core.Bool.{Bool, true, false, false≢true}
use native.Mathlib.Nat.{le_refl, not-suc-le-zero}
use native.Mathlib.Decide.{ℕ_discrete, dec_lt}
use native.Mathlib.Omega.{arith}
use Rattle.fieldset.specs.Fields.{member, without, lowest_of, First}
use Rattle.fieldset.proofs.Emptying.{Emptying, empty_start, empty_step, empty_end, taken_in}
use Rattle.strength.specs.Strength.{greatest}

-- x where the test passed, else 0
abbrev keep : Bool → ℕ → ℕ
keep b x = elim b as (λ y. ℕ) [ true ↦ x | false ↦ 0 ]

pub greatest_cong : (p q : ℕ → Bool) (s t : ℕ → ℕ) (n : ℕ) → ((u : ℕ) → u < n → p u ≡ q u)
    → ((u : ℕ) → u < n → p u ≡ true → s u ≡ t u) → greatest p s n ≡ greatest q t n
unfolding greatest
greatest_cong p q s t zero h e = refl
greatest_cong p q s t (suc n) h e =
    ap₂ max (greatest_cong p q s t n (λ u l. h u (omega arith)) (λ u l. e u (omega arith)))
    (ap (λ (b : Bool). keep b (s n)) (h n (le_refl (suc n))) ∙ go (q n) (λ f. e n (le_refl (suc n)) (h n (le_refl (suc n)) ∙ f)))
  where
    go : (b : Bool) → (b ≡ true → s n ≡ t n) → keep b (s n) ≡ keep b (t n)
    go true f = f refl
    go false f = refl

module _ (p : ℕ → Bool) (s : ℕ → ℕ) where
  -- no number that passes has more
  pub greatest_ge : (n u : ℕ) → u < n → p u ≡ true → s u ≤ greatest p s n
  unfolding greatest
  greatest_ge zero u l e = absurd (not-suc-le-zero l)
  greatest_ge (suc n) u l e = go (ℕ_discrete u n) (λ k. greatest_ge n u k e)
    where
      go : Dec (u ≡ n) → (u < n → s u ≤ greatest p s n) → s u ≤ max (greatest p s n) (keep (p n) (s n))
      go (yes d) ih =
          let pn : p n ≡ true = rw d at e in
          rw (pn, d) (omega arith)
      go (no d) ih = omega (arith, ih (omega arith))

  -- a bound of all
  pub greatest_le : (n b : ℕ) → ((u : ℕ) → u < n → p u ≡ true → s u ≤ b) → greatest p s n ≤ b
  unfolding greatest
  greatest_le zero b h = zero-le
  greatest_le (suc n) b h = go (p n) (h n (le_refl (suc n))) (greatest_le n b (λ u l. h u (omega arith)))
    where
      go : (x : Bool) → (x ≡ true → s n ≤ b) → greatest p s n ≤ b → max (greatest p s n) (keep x (s n)) ≤ b
      go true f ih = omega (arith, f refl)
      go false f ih = omega arith

  -- above 0 it is that of a number that passes
  pub greatest_found : (n : ℕ) → 0 < greatest p s n → (u : ℕ) × (u < n) × (p u ≡ true) × (s u ≡ greatest p s n)
  unfolding greatest
  greatest_found zero h = absurd (omega arith)
  greatest_found (suc n) h = go (p n) refl (dec_lt (greatest p s n) (s n)) h (greatest_found n)
    where
      go : (x : Bool) → p n ≡ x → Dec (greatest p s n < s n) → 0 < max (greatest p s n) (keep x (s n))
          → (0 < greatest p s n → (u : ℕ) × (u < n) × (p u ≡ true) × (s u ≡ greatest p s n))
          → (u : ℕ) × (u < suc n) × (p u ≡ true) × (s u ≡ max (greatest p s n) (keep x (s n)))
      go true e (yes l) k ih = (n, le_refl (suc n), e, omega arith)
      go true e (no l) k ih = let r = ih (omega arith) in (r.0, omega (arith, r.1), r.2, omega (arith, r.3))
      go false e d k ih = let r = ih (omega arith) in (r.0, omega (arith, r.1), r.2, omega (arith, r.3))

  -- where a number passes, it is that of one that does
  pub greatest_some : (n u : ℕ) → u < n → p u ≡ true → (w : ℕ) × (w < n) × (p w ≡ true) × (s w ≡ greatest p s n)
  greatest_some n u l e = go (dec_lt 0 (greatest p s n))
    where
      go : Dec (0 < greatest p s n) → (w : ℕ) × (w < n) × (p w ≡ true) × (s w ≡ greatest p s n)
      go (yes k) = greatest_found n k
      go (no k) = (u, l, e, omega (arith, greatest_ge n u l e))

-- the loop over the fields of a set: the greatest number of those that are done, from b on
pub record Topping (s : ℕ → ℕ) (set b top rest : ℕ) : Type 0 where
  pub loop : Emptying set (λ d u. d ≡ true → s u ≤ top) rest
  pub from : b ≤ top
  pub bound : top ≤ max b (greatest (member set) s 64)

module _ {s : ℕ → ℕ} {set b : ℕ} where
  pub top_start : Topping s set b b set
  top_start = record { loop = empty_start (λ u l e. absurd (false≢true e)); from = le_refl b; bound = omega arith }

  pub top_step : {top top' rest rest' u : ℕ} → Topping s set b top rest → First rest u → top' ≡ max top (s u)
      → rest' ≡ without rest (lowest_of rest) → Topping s set b top' rest'
  top_step {u = u} T U e q = record {
    loop = empty_step T.loop U q (λ d j l n h k. omega (arith, h k)) (λ k. omega arith);
    from = omega (arith, T.from);
    bound = omega (arith, T.bound, greatest_ge (member set) s 64 u U.field (taken_in T.loop U));
  }

  pub top_end : {top rest : ℕ} → Topping s set b top rest → rest ≡ 0 → top ≡ max b (greatest (member set) s 64)
  top_end {top} T z = omega (arith, T.from, T.bound, greatest_le (member set) s 64 top (empty_end T.loop z))
