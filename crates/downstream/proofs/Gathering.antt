-- Laws of a set and the sets that a table has for its fields: from a right table it is the set with all that is downstream (`downstreams_spread`).
-- The loop that gathers it is `Gathering`.
use Prim.Native.Nat.{ℕ, ◌^◌, ◌≤◌, ◌<◌}
use mathlib.Core.Path.{◌≡◌, refl, sym, ◌∙◌}
use mathlib.Core.Bool.{true, ◌&&◌, ◌||◌, or-true}
use mathlib.Core.List.{List}
use mathlib.Core.Logic.{◌⊎◌, inl, inr}
use native.Mathlib.Omega.{arith}
use Rattle.fieldset.specs.Numbers.{any}
use Rattle.fieldset.specs.Tables.{at}
use Rattle.fieldset.specs.Fields.{member, without, union, lowest_of, First, Within}
use Rattle.fieldset.proofs.Tests.{and_left, and_right, and_both}
use Rattle.fieldset.proofs.Numbers.{clash, any_here, any_found}
use Rattle.fieldset.proofs.Fields.{member_setOf_lt, set_of_lt, union_lt, member_lt, ext_member, union_cases, union_left, union_right}
use Rattle.fieldset.proofs.Emptying.{Emptying, empty_start, empty_step, empty_end, taken_in}
use Rattle.ordering.proofs.Sets.{or_cases, test_ext}
use Rattle.downstream.specs.Downstream.{spread, downstream, downstreams, gathered}
use Rattle.downstream.specs.Meaning.{Closed}
use Rattle.downstream.proofs.Spreading.{Passes, spread_lt, spread_has, spread_all, spread_closed, downstream_direct, downstream_closed, downstream_all}
use Rattle.downstream.proofs.Tables.{downstreams_at}

-- ---- its members

module _ (down : ℕ → ℕ) (set : ℕ) where
  -- g is in the set that the table has for a field of the set
  abbrev pub Below : ℕ → Type 0
  Below g = (f : ℕ) × (f < 64) × (member set f ≡ true) × (member (down f) g ≡ true)

  pub gathered_lt : gathered down set < 2 ^ 64
  unfolding gathered
  gathered_lt = set_of_lt (λ g. member set g || any (λ f. member set f && member (down f) g) 64) 64

  member_gathered : (g : ℕ) → g < 64 → member (gathered down set) g ≡ (member set g || any (λ f. member set f && member (down f) g) 64)
  unfolding gathered
  member_gathered g l = member_setOf_lt (λ g. member set g || any (λ f. member set f && member (down f) g) 64) 64 g l

  pub gathered_cases : (g : ℕ) → member (gathered down set) g ≡ true → (member set g ≡ true) ⊎ Below g
  gathered_cases g e = go (or_cases _ _ (sym (member_gathered g (member_lt _ gathered_lt g e)) ∙ e))
    where
      go : (member set g ≡ true) ⊎ (any (λ f. member set f && member (down f) g) 64 ≡ true) → (member set g ≡ true) ⊎ Below g
      go (inl h) = inl h
      go (inr h) =
          let (f, l, b) = any_found (λ f. member set f && member (down f) g) 64 h in
          inr (f, l, and_left (member set f) (member (down f) g) b, and_right (member set f) (member (down f) g) b)

  pub gathered_set : (g : ℕ) → g < 64 → member set g ≡ true → member (gathered down set) g ≡ true
  gathered_set g l e = member_gathered g l ∙ rw e

  pub gathered_down : (f g : ℕ) → f < 64 → g < 64 → member set f ≡ true → member (down f) g ≡ true → member (gathered down set) g ≡ true
  gathered_down f g k l e h =
      member_gathered g l
      ∙ rw (any_here (λ f. member set f && member (down f) g) 64 f k (and_both (member set f) (member (down f) g) e h)) (or-true (member set g))

-- ---- from a right table

module _ (reads : ℕ → ℕ) (n : ℕ) (few : n ≤ 64) where
  gathered_spread : (down : ℕ → ℕ) → ((f : ℕ) → f < 64 → down f ≡ downstream reads n f) → (set : ℕ) → set < 2 ^ 64
      → gathered down set ≡ spread reads n set
  gathered_spread down same set h =
      ext_member 64 (gathered down set) (spread reads n set) (gathered_lt down set) (spread_lt reads n set h)
      (λ g l. test_ext (member (gathered down set) g) (member (spread reads n set) g) (λ e. to g (gathered_cases down set g e)) (of g))
    where
      closed : Closed reads n (spread reads n set)
      closed = spread_closed reads n few set

      to : (g : ℕ) → (member set g ≡ true) ⊎ Below down set g → member (spread reads n set) g ≡ true
      to g (inl e) = spread_has reads n set g (member_lt set h g e) e
      to g (inr (f, l, e, i)) =
          downstream_all reads n (λ g. member (spread reads n set) g ≡ true) f
          (λ g k r. closed.joins f g l k r (spread_has reads n set f l e)) closed.joins g (rw (same f l) at i)

      pass : Passes reads n (λ g. member (gathered down set) g ≡ true)
      pass f g l k r i = go (gathered_cases down set f i)
        where
          go : (member set f ≡ true) ⊎ Below down set f → member (gathered down set) g ≡ true
          go (inl j) = gathered_down down set f g l (omega arith) j (rw (same f l) (downstream_direct reads n few f g l k r))
          go (inr (x, m, j, q)) =
              gathered_down down set x g m (omega arith) j
              (rw (same x m) ((downstream_closed reads n few x).joins f g l k r (rw (same x m) at q)))

      of : (g : ℕ) → member (spread reads n set) g ≡ true → member (gathered down set) g ≡ true
      of g e =
          spread_all reads n (λ g. member (gathered down set) g ≡ true) set (λ g i. gathered_set down set g (member_lt set h g i) i) pass g e

  pub downstreams_spread : (down : List ℕ) → down ≡ downstreams reads n → (set : ℕ) → set < 2 ^ 64 → gathered (at down) set ≡ spread reads n set
  downstreams_spread down e = gathered_spread (at down) (λ f l. rw e (downstreams_at reads n f l))

-- ---- the loop

-- the set with the entries of its fields, but for the rest
pub record Gathering (down : ℕ → ℕ) (set out rest : ℕ) : Type 0 where
  pub fits : out < 2 ^ 64
  pub has : Within set out
  pub sound : Within out (gathered down set)
  pub loop : Emptying set (λ b f. b ≡ true → Within (down f) out) rest

pub gathering_start : {down : ℕ → ℕ} {set : ℕ} → set < 2 ^ 64 → Gathering down set set set
gathering_start {down} {set} h = record {
  fits = h;
  has = λ g l e. e;
  sound = gathered_set down set;
  loop = empty_start (λ f l e. absurd (clash e refl));
}

pub gathering_step : {down : ℕ → ℕ} {set out out' rest rest' x : ℕ} → Gathering down set out rest → First rest x → out' ≡ union out (down x)
    → rest' ≡ without rest (lowest_of rest) → Gathering down set out' rest'
gathering_step {down} {set} {out} {x = x} p U e q = rw e (record {
  fits = union_lt out (down x);
  has = λ g l i. union_left out (down x) g l (p.has g l i);
  sound = λ g l i. sound g l (union_cases out (down x) g i);
  loop = empty_step p.loop U q (λ b f l d h t g k i. union_left out (down x) g k (h t g k i)) (λ t g k i. union_right out (down x) g k i);
})
  where
    sound : (g : ℕ) → g < 64 → (member out g ≡ true) ⊎ (member (down x) g ≡ true) → member (gathered down set) g ≡ true
    sound g l (inl i) = p.sound g l i
    sound g l (inr i) = gathered_down down set x g U.field l (taken_in p.loop U) i

pub gathering_end : {down : ℕ → ℕ} {set out rest : ℕ} → Gathering down set out rest → rest ≡ 0 → out ≡ gathered down set
gathering_end {down} {set} {out} p z =
    ext_member 64 out (gathered down set) p.fits (gathered_lt down set)
    (λ g l. test_ext (member out g) (member (gathered down set) g) (p.sound g l) (λ e. go g l (gathered_cases down set g e)))
  where
    go : (g : ℕ) → g < 64 → (member set g ≡ true) ⊎ Below down set g → member out g ≡ true
    go g l (inl i) = p.has g l i
    go g l (inr (f, k, i, d)) = empty_end p.loop z f k i g l d
