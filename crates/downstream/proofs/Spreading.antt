-- Laws of spreading: it is the least closed set, for all reads, loops or not. A step brings a field, so that one less is lacking, or the set is
-- closed and stays as it is: n steps are enough (`spreading_closed`). What holds of the set's fields and passes on along reads holds of all
-- (`spread_all`).
use Prim.Native.Nat.{ℕ, zero, suc, ◌+◌, ◌^◌, ◌≤◌, ◌<◌}
use mathlib.Core.Path.{◌≡◌, refl, sym, ◌∙◌}
use mathlib.Core.Bool.{Bool, true, false, not, ◌&&◌}
use mathlib.Core.Logic.{◌⊎◌, inl, inr}
use native.Mathlib.Nat.{lt_of_lt_of_le}
use native.Mathlib.Omega.{arith}
use borrow.Author.Tests.{ltb-true, eq-eqb, eqb-true, not-true}
use lib.Dec.{ltb}
use lib.Pow.{pow_pos, pow_mono}
use Rattle.fieldset.specs.Numbers.{count}
use Rattle.fieldset.specs.Fields.{member, union, only, meets, within, Within}
use Rattle.fieldset.proofs.Tests.{and_left, and_right}
use Rattle.fieldset.proofs.Numbers.{clash, but, but_other, count_but, count_le, count_mono, count_pos}
use Rattle.fieldset.proofs.Fields.{ext_member, member_empty, member_setOf, member_setOf_lt, set_of_lt, union_lt, member_only, within_member, union_cases, union_left, union_right}
use Rattle.ordering.proofs.Sets.{test_ext, meets_found, meets_some, within_not}
use Rattle.downstream.specs.Downstream.{readers, spreading, spread, downstream}
use Rattle.downstream.specs.Meaning.{Closed, Least}

module _ (reads : ℕ → ℕ) (n : ℕ) where
  -- ---- the fields that read a field of a set

  pub readers_found : (set g : ℕ) → member (readers reads n set) g ≡ true
      → (g < n) × ((f : ℕ) × (f < 64) × (member (reads g) f ≡ true) × (member set f ≡ true))
  unfolding readers
  readers_found set g e =
      let h : (ltb g n && meets (reads g) set) ≡ true = sym (member_setOf (λ g. meets (reads g) set) n g) ∙ e in
      (ltb-true g n (and_left (ltb g n) (meets (reads g) set) h), meets_found (reads g) set (and_right (ltb g n) (meets (reads g) set) h))

  pub readers_here : (set f g : ℕ) → f < 64 → g < n → member (reads g) f ≡ true → member set f ≡ true → member (readers reads n set) g ≡ true
  unfolding readers
  readers_here set f g l k r e = member_setOf_lt (λ g. meets (reads g) set) n g k ∙ meets_some (reads g) set f l r e

  pub readers_of_one : (f g : ℕ) → member (readers reads n (only f)) g ≡ true → (g < n) × (member (reads g) f ≡ true)
  readers_of_one f g e =
      let (l, (i, k, r, o)) = readers_found (only f) g e in
      let d : i ≡ f = eqb-true i f (sym (member_only f i k) ∙ o) in
      (l, rw d at r)

  pub reader_of_one : (f g : ℕ) → f < 64 → g < n → member (reads g) f ≡ true → member (readers reads n (only f)) g ≡ true
  reader_of_one f g l k r = readers_here (only f) f g l k r (member_only f f l ∙ eq-eqb f f refl)

  pub readers_lt : (set : ℕ) → n ≤ 64 → readers reads n set < 2 ^ 64
  unfolding readers
  readers_lt set few = lt_of_lt_of_le (set_of_lt (λ g. meets (reads g) set) n) (pow_mono few)

  -- ---- by steps

  spreading_lt : (k set : ℕ) → set < 2 ^ 64 → spreading reads n k set < 2 ^ 64
  unfolding spreading
  spreading_lt zero set h = h
  spreading_lt (suc k) set h = union_lt (spreading reads n k set) (readers reads n (spreading reads n k set))

  spreading_has : (k set : ℕ) → Within set (spreading reads n k set)
  unfolding spreading
  spreading_has zero set g l e = e
  spreading_has (suc k) set g l e = union_left (spreading reads n k set) (readers reads n (spreading reads n k set)) g l (spreading_has k set g l e)

  -- one step
  abbrev further : ℕ → ℕ
  further set = union set (readers reads n set)

  -- P passes on along reads
  abbrev pub Passes : (ℕ → Type 0) → Type 0
  Passes P = (f g : ℕ) → f < 64 → g < n → member (reads g) f ≡ true → P f → P g

  spreading_all : (P : ℕ → Type 0) (set : ℕ) → ((g : ℕ) → member set g ≡ true → P g) → Passes P
      → (k g : ℕ) → member (spreading reads n k set) g ≡ true → P g
  unfolding spreading
  spreading_all P set base pass zero g e = base g e
  spreading_all P set base pass (suc k) g e =
      go (union_cases (spreading reads n k set) (readers reads n (spreading reads n k set)) g e) (spreading_all P set base pass k)
    where
      go : (member (spreading reads n k set) g ≡ true) ⊎ (member (readers reads n (spreading reads n k set)) g ≡ true)
          → ((g : ℕ) → member (spreading reads n k set) g ≡ true → P g) → P g
      go (inl h) ih = ih g h
      go (inr h) ih =
          let (l, (f, k, r, i)) = readers_found _ g h in
          pass f g k l r (ih f i)

  -- ---- n steps are enough

  -- how many of n fields a set lacks
  abbrev lacks : ℕ → ℕ
  lacks set = count (λ g. not (member set g)) n

  module _ (few : n ≤ 64) where
    -- a step that brings a field leaves one less to lack
    lacks_less : (a b g : ℕ) → Within a b → g < n → member a g ≡ false → member b g ≡ true → lacks b < lacks a
    lacks_less a b g sub l out into =
        omega (
          arith,
          count_but (λ i. not (member a i)) n g l (rw out refl),
          count_mono (λ i. not (member b i)) (but (λ i. not (member a i)) g) n each,
        )
      where
        each : (i : ℕ) → i < n → not (member b i) ≡ true → but (λ i. not (member a i)) g i ≡ true
        each i k e = but_other (λ i. not (member a i)) g i apart ∙ old (member a i) refl
          where
            apart : i ≡ g → ⊥
            apart d = clash into (rw d at (not-true (member b i) e))

            old : (x : Bool) → member a i ≡ x → not x ≡ true
            old true f = absurd (clash (sub i (omega arith) f) (not-true (member b i) e))
            old false f = refl

    -- nothing is lacking: closed
    closed_full : (set : ℕ) → lacks set ≡ 0 → Closed reads n set
    closed_full set z = record { joins = λ f g l k r e. go g k (member set g) refl }
      where
        go : (g : ℕ) → g < n → (x : Bool) → member set g ≡ x → x ≡ true
        go g k true e = refl
        go g k false e = absurd (omega (arith, count_pos (λ g. not (member set g)) n g k (rw e refl)))

    closed_within : (set : ℕ) → within (readers reads n set) set ≡ true → Closed reads n set
    closed_within set w = record {
      joins = λ f g l k r e. within_member (readers reads n set) set g w (omega arith) (readers_here set f g l k r e);
    }

    -- a closed set stays closed
    closed_next : (set : ℕ) → Closed reads n set → Closed reads n (further set)
    closed_next set c = record {
      joins = λ f g l k r e.
          union_left set (readers reads n set) g (omega arith) (c.joins f g l k r (old f (union_cases set (readers reads n set) f e)));
    }
      where
        old : (f : ℕ) → (member set f ≡ true) ⊎ (member (readers reads n set) f ≡ true) → member set f ≡ true
        old f (inl h) = h
        old f (inr h) =
            let (l, (i, k, r, e)) = readers_found set f h in
            c.joins i f k l r e

    spreading_closed : (k set : ℕ) → Closed reads n (spreading reads n k set) ⊎ (lacks (spreading reads n k set) + k ≤ n)
    unfolding spreading
    spreading_closed zero set = inr (omega (arith, count_le (λ g. not (member set g)) n))
    spreading_closed (suc k) set = go (spreading reads n k set) (spreading_closed k set)
      where
        go : (s : ℕ) → Closed reads n s ⊎ (lacks s + k ≤ n) → Closed reads n (further s) ⊎ (lacks (further s) + suc k ≤ n)
        go s (inl c) = inl (closed_next s c)
        go s (inr h) = test (within (readers reads n s) s) refl
          where
            test : (b : Bool) → within (readers reads n s) s ≡ b → Closed reads n (further s) ⊎ (lacks (further s) + suc k ≤ n)
            test true w = inl (closed_next s (closed_within s w))
            test false w =
                let (g, l, i, o) = within_not (readers reads n s) s w in
                let less =
                lacks_less s (further s) g (λ i l e. union_left s (readers reads n s) i l e) (readers_found s g i).0 o
                (union_right s (readers reads n s) g l i) in
                inr (omega arith)

    pub spread_closed : (set : ℕ) → Closed reads n (spread reads n set)
    unfolding spread
    spread_closed set = go (spreading_closed n set)
      where
        go : Closed reads n (spreading reads n n set) ⊎ (lacks (spreading reads n n set) + n ≤ n) → Closed reads n (spreading reads n n set)
        go (inl c) = c
        go (inr h) = closed_full (spreading reads n n set) (omega arith)

  -- ---- a set and all that is downstream of it

  pub spread_lt : (set : ℕ) → set < 2 ^ 64 → spread reads n set < 2 ^ 64
  unfolding spread
  spread_lt set h = spreading_lt n set h

  pub spread_has : (set : ℕ) → Within set (spread reads n set)
  unfolding spread
  spread_has set = spreading_has n set

  pub spread_all : (P : ℕ → Type 0) (set : ℕ) → ((g : ℕ) → member set g ≡ true → P g) → Passes P
      → (g : ℕ) → member (spread reads n set) g ≡ true → P g
  unfolding spread
  spread_all P set base pass g e = spreading_all P set base pass n g e

  -- it is in every closed set that has the set's fields
  spread_in : (set other : ℕ) → Within set other → Closed reads n other → Within (spread reads n set) other
  spread_in set other i c g l e =
      spread_all (λ g. g < 64 → member other g ≡ true) set (λ g e l. i g l e) (λ f g l k r e q. c.joins f g l k r (e l)) g e l

  -- a closed set is all that is downstream of it
  pub spread_closed_set : (set : ℕ) → set < 2 ^ 64 → Closed reads n set → spread reads n set ≡ set
  spread_closed_set set h c =
      ext_member 64 (spread reads n set) set (spread_lt set h) h
      (λ g l. test_ext (member (spread reads n set) g) (member set g) (spread_in set set (λ f k e. e) c g l) (spread_has set g l))

  pub spread_nothing : spread reads n 0 ≡ 0
  spread_nothing = spread_closed_set 0 (pow_pos 64) (record { joins = λ f g l k r e. absurd (clash e (member_empty f)) })

  -- ---- what is downstream of one field

  module _ (few : n ≤ 64) where
    pub spread_least : (set : ℕ) → Least reads n set (spread reads n set)
    spread_least set = record { has = spread_has set; closed = spread_closed few set; least = spread_in set }

    pub downstream_lt : (f : ℕ) → downstream reads n f < 2 ^ 64
    unfolding downstream
    downstream_lt f = spread_lt (readers reads n (only f)) (readers_lt (only f) few)

    pub downstream_direct : (f g : ℕ) → f < 64 → g < n → member (reads g) f ≡ true → member (downstream reads n f) g ≡ true
    unfolding downstream
    downstream_direct f g l k r = spread_has (readers reads n (only f)) g (omega arith) (reader_of_one f g l k r)

    pub downstream_closed : (f : ℕ) → Closed reads n (downstream reads n f)
    unfolding downstream
    downstream_closed f = spread_closed few (readers reads n (only f))

  pub downstream_all : (P : ℕ → Type 0) (f : ℕ) → ((g : ℕ) → g < n → member (reads g) f ≡ true → P g) → Passes P
      → (g : ℕ) → member (downstream reads n f) g ≡ true → P g
  unfolding downstream
  downstream_all P f base pass g e = spread_all P (readers reads n (only f)) (λ g i. let (l, r) = readers_of_one f g i in base g l r) pass g e
