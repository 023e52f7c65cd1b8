-- Laws of what lies upstream of a set (`upstream_cases`), and of the loop that climbs there (`Climbing`): fields seen and fields yet to be looked at
-- are apart, so that each step leaves one field less to see.
use Prim.Native.Nat.{ℕ, ◌^◌, ◌<◌}
use mathlib.Core.Path.{◌≡◌, refl, sym, ◌∙◌}
use mathlib.Core.Bool.{Bool, true, false, not, ◌&&◌, ◌||◌, or-true}
use mathlib.Core.Logic.{◌⊎◌, inl, inr}
use native.Mathlib.Nat.{le_refl}
use native.Mathlib.Decide.{ℕ_discrete}
use native.Mathlib.Omega.{arith}
use borrow.Author.Tests.{lt-ltb, ltb-true, not-true}
use lib.Pow.{pow_pos}
use Rattle.fieldset.specs.Numbers.{count}
use Rattle.fieldset.specs.Fields.{member, with, union, below, meets, minus, First, Within}
use Rattle.fieldset.proofs.Tests.{and_left, and_right}
use Rattle.fieldset.proofs.Numbers.{clash}
use Rattle.fieldset.proofs.Fields.{ext_member, member_empty, member_setOf_lt, set_of_lt, member_below, member_with_other, with_lt, with_of, member_filter, union_cases, union_left, union_right}
use Rattle.ordering.specs.Walks.{Inside}
use Rattle.ordering.proofs.Sets.{or_cases, test_ext, meets_found, meets_some}
use Rattle.ordering.proofs.Plan.{unlisted?, unlisted_step}
use Rattle.downstream.specs.Downstream.{downstream}
use Rattle.downstream.proofs.Spreading.{downstream_direct, downstream_all}
use Rattle.downstream.proofs.Walks.{downstream_later}
use Rattle.keeping.specs.Keeping.{upstream}

-- a field of a set of the first n
pub low_in : (n set : ℕ) → Within set (below n) → (f : ℕ) → f < 64 → member set f ≡ true → f < n
low_in n set w f l e = ltb-true f n (sym (member_below n f l) ∙ w f l e)

-- what a field of the n reads is of the n
pub low_reads : {reads : ℕ → ℕ} {n : ℕ} → Inside reads n → (c : ℕ) → c < n → Within (reads c) (below n)
low_reads {n = n} a c l f k e = member_below n f k ∙ lt-ltb f n (a.inside c f l k e)

-- ---- the members of an upstream set

module _ (reads : ℕ → ℕ) (n set : ℕ) where
  -- f has a field of the set downstream
  abbrev pub Above : ℕ → Type 0
  Above f = (h : ℕ) × (h < 64) × (member (downstream reads n f) h ≡ true) × (member set h ≡ true)

  pub upstream_lt : upstream reads n set < 2 ^ 64
  unfolding upstream
  upstream_lt = set_of_lt (λ f. member set f || meets (downstream reads n f) set) 64

  member_upstream : (f : ℕ) → f < 64 → member (upstream reads n set) f ≡ (member set f || meets (downstream reads n f) set)
  unfolding upstream
  member_upstream f l = member_setOf_lt (λ f. member set f || meets (downstream reads n f) set) 64 f l

  pub upstream_cases : (f : ℕ) → f < 64 → member (upstream reads n set) f ≡ true → (member set f ≡ true) ⊎ Above f
  upstream_cases f l e = go (or_cases _ _ (sym (member_upstream f l) ∙ e))
    where
      go : (member set f ≡ true) ⊎ (meets (downstream reads n f) set ≡ true) → (member set f ≡ true) ⊎ Above f
      go (inl h) = inl h
      go (inr h) = inr (meets_found (downstream reads n f) set h)

  pub upstream_set : (f : ℕ) → f < 64 → member set f ≡ true → member (upstream reads n set) f ≡ true
  upstream_set f l e = member_upstream f l ∙ rw e

  pub upstream_down : (f h : ℕ) → f < 64 → h < 64 → member (downstream reads n f) h ≡ true → member set h ≡ true
      → member (upstream reads n set) f ≡ true
  upstream_down f h l k d e = member_upstream f l ∙ rw (meets_some (downstream reads n f) set h k d e) (or-true (member set f))

-- ---- climbing

-- in one of two sets
abbrev Either : ℕ → ℕ → ℕ → Type 0
Either a b f = (member a f ≡ true) ⊎ (member b f ≡ true)

-- the fields that are seen, and those that are yet to be looked at
pub record Climbing (reads : ℕ → ℕ) (n set seen rest : ℕ) : Type 0 where
  pub fits : seen < 2 ^ 64
  pub apart : (f : ℕ) → f < 64 → member rest f ≡ true → member seen f ≡ false
  pub has : (f : ℕ) → f < 64 → member set f ≡ true → Either seen rest f
  pub closed : (f g : ℕ) → f < 64 → g < 64 → member seen f ≡ true → member (reads f) g ≡ true → Either seen rest g
  pub low : (f : ℕ) → f < 64 → Either seen rest f → f < n
  pub sound : (f : ℕ) → f < 64 → Either seen rest f → member (upstream reads n set) f ≡ true

pub climbing_start : {reads : ℕ → ℕ} {n set : ℕ} → Within set (below n) → Climbing reads n set 0 set
climbing_start {reads} {n} {set} w = record {
  fits = pow_pos 64;
  apart = λ f l e. member_empty f;
  has = λ f l e. inr e;
  closed = λ f g l k e r. absurd (clash e (member_empty f));
  low = λ f l e. low_in n set w f l (only_rest f e);
  sound = λ f l e. upstream_set reads n set f l (only_rest f e);
}
  where
    only_rest : (f : ℕ) → Either 0 set f → member set f ≡ true
    only_rest f (inl e) = absurd (clash e (member_empty f))
    only_rest f (inr e) = e

module _ {reads : ℕ → ℕ} {n set seen rest x : ℕ} (a : Inside reads n) (p : Climbing reads n set seen rest) (U : First rest x) where
  -- one field less to see
  pub climbing_less : {seen' : ℕ} → seen' ≡ with seen x → count (unlisted? seen') 64 < count (unlisted? seen) 64
  climbing_less e = rw e (omega (arith, unlisted_step reads 64 (le_refl 64) seen x U.field (p.apart x U.field U.is_in)))

  -- what is then to be looked at
  abbrev next : ℕ
  next = minus (union rest (reads x)) (with seen x)

  pub climbing_step : {seen' both rest' : ℕ} → seen' ≡ with seen x → both ≡ union rest (reads x) → rest' ≡ minus both seen'
      → Climbing reads n set seen' rest'
  climbing_step e b q = rw (q, e, b) (record {
    fits = with_lt seen x;
    apart = λ f l i. not-true (member (with seen x) f) (and_right (member (union rest (reads x)) f) (not (member (with seen x) f)) (in_next f l i));
    has = λ f l i. kept f l (p.has f l i);
    closed = λ f g l k i r. closed f g l k i r (ℕ_discrete f x);
    low = λ f l i. low f l (old f l i);
    sound = λ f l i. sound f l (old f l i);
  })
    where
      in_next : (f : ℕ) → f < 64 → member next f ≡ true → (member (union rest (reads x)) f && not (member (with seen x) f)) ≡ true
      in_next f l i = sym (member_filter (λ j. not (member (with seen x) j)) (union rest (reads x)) f l) ∙ i

      joined : (g : ℕ) → g < 64 → member (union rest (reads x)) g ≡ true → Either (with seen x) next g
      joined g l i = go (member (with seen x) g) refl
        where
          go : (c : Bool) → member (with seen x) g ≡ c → Either (with seen x) next g
          go true j = inl j
          go false j = inr (member_filter (λ j. not (member (with seen x) j)) (union rest (reads x)) g l ∙ rw (i, j) refl)

      kept : (g : ℕ) → g < 64 → Either seen rest g → Either (with seen x) next g
      kept g l (inl i) = inl (with_of seen x g l i)
      kept g l (inr i) = joined g l (union_left rest (reads x) g l i)

      closed : (f g : ℕ) → f < 64 → g < 64 → member (with seen x) f ≡ true → member (reads f) g ≡ true → Dec (f ≡ x) → Either (with seen x) next g
      closed f g l k i r (yes d) = joined g k (union_right rest (reads x) g k (rw d at r))
      closed f g l k i r (no d) = kept g k (p.closed f g l k (sym (member_with_other seen x f l d) ∙ i) r)

      -- a field that x reads is new
      old : (g : ℕ) → g < 64 → Either (with seen x) next g → Either seen rest g ⊎ (member (reads x) g ≡ true)
      old g l (inl i) = go (ℕ_discrete g x)
        where
          go : Dec (g ≡ x) → Either seen rest g ⊎ (member (reads x) g ≡ true)
          go (yes d) = inl (inr (rw d U.is_in))
          go (no d) = inl (inl (sym (member_with_other seen x g l d) ∙ i))
      old g l (inr i) = go (union_cases rest (reads x) g (and_left (member (union rest (reads x)) g) (not (member (with seen x) g)) (in_next g l i)))
        where
          go : Either rest (reads x) g → Either seen rest g ⊎ (member (reads x) g ≡ true)
          go (inl j) = inl (inr j)
          go (inr j) = inr j

      xn : x < n
      xn = p.low x U.field (inr U.is_in)

      low : (g : ℕ) → g < 64 → Either seen rest g ⊎ (member (reads x) g ≡ true) → g < n
      low g l (inl i) = p.low g l i
      low g l (inr i) = a.inside x g xn l i

      sound : (g : ℕ) → g < 64 → Either seen rest g ⊎ (member (reads x) g ≡ true) → member (upstream reads n set) g ≡ true
      sound g l (inl i) = p.sound g l i
      sound g l (inr i) = go (upstream_cases reads n set x U.field (p.sound x U.field (inr U.is_in)))
        where
          go : (member set x ≡ true) ⊎ Above reads n set x → member (upstream reads n set) g ≡ true
          go (inl j) = upstream_down reads n set g x l U.field (downstream_direct reads n a.few g x l xn i) j
          go (inr (h, k, d, j)) = upstream_down reads n set g h l k (downstream_later reads n a.few g x h l xn i d) j

pub climbing_end : {reads : ℕ → ℕ} {n set seen rest : ℕ} → Inside reads n → Climbing reads n set seen rest → rest ≡ 0 → seen ≡ upstream reads n set
climbing_end {reads} {n} {set} {seen} {rest} a p z =
    ext_member 64 seen (upstream reads n set) p.fits (upstream_lt reads n set)
    (λ f l.
    test_ext (member seen f) (member (upstream reads n set) f) (λ e. p.sound f l (inl e)) (λ e. to f l (upstream_cases reads n set f l e)))
  where
    in_seen : (f : ℕ) → Either seen rest f → member seen f ≡ true
    in_seen f (inl i) = i
    in_seen f (inr i) = absurd (clash i (rw z (member_empty f)))

    to : (f : ℕ) → f < 64 → (member set f ≡ true) ⊎ Above reads n set f → member seen f ≡ true
    to f l (inl e) = in_seen f (p.has f l e)
    to f l (inr (h, k, d, e)) =
        downstream_all reads n (λ g. member seen g ≡ true → member seen f ≡ true) f
        (λ g m r i. in_seen f (p.closed g f (omega (arith, a.few)) l i r))
        (λ x g m q r ih i. ih (in_seen x (p.closed g x (omega (arith, a.few)) m i r)))
        h d (in_seen h (p.has h k e))
