-- A loop over the fields of a set, which takes the lowest that is left until none is: the set is what is done and what is left. What is said of each
-- field changes for the taken one alone (`empty_step`); the measure is what is left (`first_falls`).
use Prim.Native.Nat.{ℕ, ◌^◌, ◌<◌}
use mathlib.Core.Path.{◌≡◌, sym, ◌∙◌}
use mathlib.Core.Bool.{Bool, true, false, not, ◌&&◌, and-true, and-false, and-not_self}
use mathlib.Core.Logic.{◌⊎◌, inl, inr, ◌≢◌}
use native.Mathlib.Decide.{ℕ_discrete}
use lib.Pow.{pow_pos}
use Rattle.fieldset.specs.Fields.{member, with, without, lowest_of, First, filter, Within}
use Rattle.fieldset.proofs.Fields.{ext_member, filter_lt, with_lt, member_filter, member_empty, member_with_same, member_with_other, member_without_same, member_without_other, without_cases, lowest_of_lt, lowest_of_member, without_falls}

-- ---- the field that is taken

pub first_is : {m u : ℕ} → m < 2 ^ 64 → 0 < m → u ≡ lowest_of m → First m u
first_is {m} {u} h pos e =
    record { fits = h; field = rw e (lowest_of_lt m h pos); is_lowest = e; is_in = rw e (lowest_of_member m h pos) }

-- what is then left falls
pub first_falls : {m u r : ℕ} → First m u → r ≡ without m (lowest_of m) → r < m
first_falls {m} {u} {r} U e = rw (e, ← U.is_lowest) (without_falls m U.fits u U.is_in)

-- ---- the loop

-- the fields of `rest` are left of those of `set`: S true holds of each field that is done, S false of each other
pub record Emptying (set : ℕ) (S : Bool → ℕ → Type 0) (rest : ℕ) : Type 0 where
  pub part : Within rest set
  pub each : (j : ℕ) → j < 64 → S (member set j && not (member rest j)) j

-- nothing is done
pub empty_start : {set : ℕ} {S : Bool → ℕ → Type 0} → ((j : ℕ) → j < 64 → S false j) → Emptying set S set
empty_start {set} h = record { part = λ j l e. e; each = λ j l. rw (and-not_self (member set j)) (h j l) }

module _ {set : ℕ} {S : Bool → ℕ → Type 0} {rest u : ℕ} (E : Emptying set S rest) (U : First rest u) where
  -- the field that is taken is in the set
  pub taken_in : member set u ≡ true
  taken_in = E.part u U.field U.is_in

  -- and was not done
  pub taken_was : S false u
  taken_was = rw (U.is_in, and-false (member set u)) at (E.each u U.field)

  -- now it is
  pub empty_step : {S' : Bool → ℕ → Type 0} {rest' : ℕ} → rest' ≡ without rest (lowest_of rest)
      → ((b : Bool) (j : ℕ) → j < 64 → j ≢ u → S b j → S' b j) → S' true u → Emptying set S' rest'
  empty_step {S'} e other here = rw (e, ← U.is_lowest) (record {
    part = λ j l i. E.part j l (without_cases rest u j l i).0;
    each = λ j l. go j l (ℕ_discrete j u);
  })
    where
      go : (j : ℕ) → j < 64 → Dec (j ≡ u) → S' (member set j && not (member (without rest u) j)) j
      go j l (yes d) = rw (d, member_without_same rest u, taken_in) here
      go j l (no d) = rw (member_without_other rest u j l d) (other (member set j && not (member rest j)) j l d (E.each j l))

-- all is done
pub empty_end : {set : ℕ} {S : Bool → ℕ → Type 0} {rest : ℕ} → Emptying set S rest → rest ≡ 0 → (j : ℕ) → j < 64 → S (member set j) j
empty_end {set} E z j l = rw (z, member_empty j, and-true (member set j)) at (E.each j l)

-- ---- the loop that gathers the fields that pass a test

pub record Filtering (p : ℕ → Bool) (set out rest : ℕ) : Type 0 where
  pub fits : out < 2 ^ 64
  pub loop : Emptying set (λ b j. member out j ≡ (b && p j)) rest

module _ {p : ℕ → Bool} {set : ℕ} where
  pub filter_start : Filtering p set 0 set
  filter_start = record { fits = pow_pos 64; loop = empty_start (λ j l. member_empty j) }

  pub filter_step : {out out' rest rest' u : ℕ} → Filtering p set out rest → First rest u
      → ((p u ≡ true) × (out' ≡ with out u)) ⊎ ((p u ≡ false) × (out' ≡ out)) → rest' ≡ without rest (lowest_of rest)
      → Filtering p set out' rest'
  filter_step {out} {u = u} F U (inl (e, w)) q = rw w (record {
    fits = with_lt out u;
    loop =
        empty_step F.loop U q (λ b j l d h. member_with_other out u j l d ∙ h)
        (member_with_same out u U.field ∙ sym e);
  })
  filter_step {out} {u = u} F U (inr (e, w)) q = rw w (record {
    fits = F.fits;
    loop = empty_step F.loop U q (λ b j l d h. h) (taken_was F.loop U ∙ sym e);
  })

  pub filter_end : {out rest : ℕ} → Filtering p set out rest → rest ≡ 0 → out ≡ filter p set
  filter_end {out} F z =
      ext_member 64 out (filter p set) F.fits (filter_lt p set)
      (λ j l. empty_end F.loop z j l ∙ sym (member_filter p set j l))
