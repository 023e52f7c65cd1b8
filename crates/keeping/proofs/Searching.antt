-- Laws of the search for a loop through a changed field (`Searching`).
use Prim.Native.Nat.{ℕ, ◌<◌}
use mathlib.Core.Path.{◌≡◌, refl}
use mathlib.Core.Bool.{Bool, true, false, ◌&&◌}
use Rattle.fieldset.specs.Fields.{member, without, lowest_of, First}
use Rattle.fieldset.proofs.Tests.{and_both}
use Rattle.fieldset.proofs.Numbers.{clash, any_here, any_none}
use Rattle.fieldset.proofs.Emptying.{Emptying, empty_start, empty_step, empty_end, taken_in}
use Rattle.keeping.specs.Keeping.{upstream, loops_through}

-- no loop goes through a field of the set, but for the rest
pub record Searching (reads : ℕ → ℕ) (n set rest : ℕ) : Type 0 where
  pub loop : Emptying set (λ b c. b ≡ true → member (upstream reads n (reads c)) c ≡ false) rest

pub searching_start : {reads : ℕ → ℕ} {n set : ℕ} → Searching reads n set set
searching_start = record { loop = empty_start (λ c l e. absurd (clash e refl)) }

module _ {reads : ℕ → ℕ} {n set rest x : ℕ} (p : Searching reads n set rest) (U : First rest x) where
  pub searching_step : {rest' : ℕ} → member (upstream reads n (reads x)) x ≡ false → rest' ≡ without rest (lowest_of rest)
      → Searching reads n set rest'
  searching_step m q = record { loop = empty_step p.loop U q (λ b c l d h. h) (λ e. m) }

  pub searching_found : member (upstream reads n (reads x)) x ≡ true → loops_through reads n set ≡ true
  unfolding loops_through
  searching_found m =
      any_here (λ c. member set c && member (upstream reads n (reads c)) c) 64 x U.field
      (and_both (member set x) (member (upstream reads n (reads x)) x) (taken_in p.loop U) m)

pub searching_end : {reads : ℕ → ℕ} {n set rest : ℕ} → Searching reads n set rest → rest ≡ 0 → loops_through reads n set ≡ false
unfolding loops_through
searching_end {reads} {n} {set} p z = any_none (λ c. member set c && member (upstream reads n (reads c)) c) 64 (λ c l. go c l (member set c) refl)
  where
    go : (c : ℕ) → c < 64 → (b : Bool) → member set c ≡ b → (b && member (upstream reads n (reads c)) c) ≡ false
    go c l true e = empty_end p.loop z c l e
    go c l false e = refl
