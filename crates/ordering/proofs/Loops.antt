-- Loops: a plan that leaves a field out, stuck fields, and closed walks are one thing; where there is none the fields have ranks.
use Prim.Native.Nat.{ℕ, zero, suc, ◌≤◌, ◌<◌}
use mathlib.Core.Path.{◌≡◌, refl, sym, ap, ◌∙◌, subst}
use mathlib.Core.Bool.{Bool, true, false, not, ◌&&◌, ◌||◌, and-true, and-false, or-false}
use mathlib.Core.Logic.{◌⊎◌, inl, inr}
use native.Mathlib.Nat.{le_refl}
use native.Mathlib.Decide.{ℕ_discrete}
use native.Mathlib.Omega.{arith}
use borrow.Author.Tests.{lt-ltb, ltb-true, eq-eqb, ne_eqb, eqb-true, not-true}
use lib.Dec.{eqb, ltb}
use lib.ListN.{length}
use Rattle.fieldset.specs.Numbers.{count, any}
use Rattle.fieldset.specs.Ranks.{Ranked}
use Rattle.fieldset.specs.Fields.{member, with}
use Rattle.fieldset.proofs.Numbers.{clash, but, count_cong, count_none, count_but, count_le, any_found, any_false}
use Rattle.ordering.specs.Order.{following, order, has_loop}
use Rattle.ordering.specs.Walks.{Read, Walk, one, more, ClosedWalk, Inside}
use Rattle.fieldset.proofs.Tests.{and_left, and_right, and_both}
use Rattle.ordering.proofs.Sets.{within_not}
use Rattle.ordering.proofs.Plan.{able, Lists, Stops, step, unlisted?, unlisted_step, unlisted_all, length_no_loop, no_loop_ranked, rank_of}

-- ---- the same number twice

-- two of the first m numbers of a sequence are equal
pub record Twice (s : ℕ → ℕ) (m : ℕ) : Type 0 where
  pub i : ℕ
  pub j : ℕ
  pub first : i < j
  pub second : j < m
  pub equal : s i ≡ s j

module _ (s : ℕ → ℕ) (n : ℕ) (low : (i : ℕ) → s i < n) where
  -- v is one of the first m numbers
  abbrev hit : ℕ → ℕ → Bool
  hit m v = any (λ i. eqb (s i) v) m

  hit_last : (m v : ℕ) → hit m (s m) ≡ false → but (hit (suc m)) (s m) v ≡ hit m v
  unfolding any
  hit_last m v h = go (ℕ_discrete v (s m))
    where
      go : Dec (v ≡ s m) → but (hit (suc m)) (s m) v ≡ hit m v
      go (yes d) = rw (eq-eqb v (s m) d) (and-false _ ∙ sym h ∙ ap (hit m) (sym d))
      go (no d) = rw (ne_eqb v (s m) d, ne_eqb (s m) v (λ e. d (sym e))) (and-true (hit m v || false) ∙ or-false (hit m v))

  hits : (m : ℕ) → Twice s m ⊎ (count (hit m) n ≡ m)
  unfolding any
  hits zero = inr (count_none (hit 0) n (λ i l. refl))
  hits (suc m) = go (hits m) (hit m (s m)) refl
    where
      go : Twice s m ⊎ (count (hit m) n ≡ m) → (b : Bool) → hit m (s m) ≡ b → Twice s (suc m) ⊎ (count (hit (suc m)) n ≡ suc m)
      go (inl t) b e = inl (record { i = t.i; j = t.j; first = t.first; second = omega (arith, t.second); equal = t.equal })
      go (inr c) true e =
          let (i, l, h) = any_found (λ i. eqb (s i) (s m)) m e in
          inl (record { i = i; j = m; first = l; second = le_refl (suc m); equal = eqb-true (s i) (s m) h })
      go (inr c) false e =
          inr
          (count_but (hit (suc m)) n (s m) (low m) (rw (e, eq-eqb (s m) (s m) refl) refl)
          ∙ ap suc (count_cong (but (hit (suc m)) (s m)) (hit m) n (λ v l. hit_last m v e) ∙ c))

  -- the pigeonhole: of n + 1 numbers below n two are equal
  pub twice : Twice s (suc n)
  twice = go (hits (suc n))
    where
      go : Twice s (suc n) ⊎ (count (hit (suc n)) n ≡ suc n) → Twice s (suc n)
      go (inl t) = t
      go (inr c) = absurd (omega (arith, count_le (hit (suc n)) n))

-- ---- stuck fields have a closed walk

-- every field that passes the test reads one that passes it
pub record Stuck (reads : ℕ → ℕ) (test : ℕ → Bool) : Type 0 where
  pub reads_one : (f : ℕ) → test f ≡ true → (g : ℕ) × (g < 64) × (member (reads f) g ≡ true) × (test g ≡ true)

-- some of n fields, each of which reads one of them
pub record StuckFields (reads : ℕ → ℕ) (n : ℕ) : Type 0 where
  pub test : ℕ → Bool
  pub low : (f : ℕ) → test f ≡ true → f < n
  pub stuck : Stuck reads test
  pub field : ℕ
  pub passes : test field ≡ true

-- a read before a walk
before_walk : (reads : ℕ → ℕ) (n f g h : ℕ) → Read reads n f g → Walk reads n g h → Walk reads n f h
before_walk reads n f g h r (one q) = more (one r) q
before_walk reads n f g h r (more {g = x} w q) = more (before_walk reads n f g x r w) q

module _ (reads : ℕ → ℕ) (n : ℕ) (s : StuckFields reads n) where
  -- a stuck field
  abbrev Member : Type 0
  Member = (f : ℕ) × (s.test f ≡ true)

  -- a stuck field that a stuck field reads
  back : Member → Member
  back (f, e) = let r = s.stuck.reads_one f e in (r.0, r.3)

  back_read : (m : Member) → Read reads n (back m).0 m.0
  unfolding back
  back_read (f, e) =
      let r = s.stuck.reads_one f e in
      record { from = s.low r.0 r.3; to = s.low f e; reads_it = r.2 }

  -- back and back
  nth : ℕ → Member
  nth zero = (s.field, s.passes)
  nth (suc i) = back (nth i)

  nth_walk : (i j : ℕ) → i < j → Walk reads n (nth j).0 (nth i).0
  unfolding nth
  nth_walk i zero l = absurd (omega arith)
  nth_walk i (suc j) l = go (ℕ_discrete i j) (nth_walk i j)
    where
      go : Dec (i ≡ j) → (i < j → Walk reads n (nth j).0 (nth i).0) → Walk reads n (back (nth j)).0 (nth i).0
      go (yes d) ih = rw d (one (back_read (nth j)))
      go (no d) ih = before_walk reads n (back (nth j)).0 (nth j).0 (nth i).0 (back_read (nth j)) (ih (omega arith))

  pub stuck_walk : ClosedWalk reads n
  stuck_walk =
      let t = twice (λ i. (nth i).0) n (λ i. s.low (nth i).0 (nth i).1) in
      record { field = (nth t.i).0; walk = subst (λ f. Walk reads n f (nth t.i).0) (sym t.equal) (nth_walk t.i t.j t.first) }

-- ---- a plan that leaves a field out leaves stuck fields

-- where the plan stops, the unlisted fields are stuck
stop_stuck : (reads : ℕ → ℕ) (n L : ℕ) → Inside reads n → ((f : ℕ) → f < n → able reads L f ≡ false) → (f : ℕ) → f < n → member L f ≡ false
    → StuckFields reads n
stop_stuck reads n L a none f l e = record {
  test = λ f. ltb f n && not (member L f);
  low = λ f t. ltb-true f n (and_left (ltb f n) (not (member L f)) t);
  stuck = record { reads_one = λ f t. reading f (ltb-true f n (and_left (ltb f n) (not (member L f)) t)) (not-true (member L f) (and_right (ltb f n) (not (member L f)) t)) };
  field = f;
  passes = and_both (ltb f n) (not (member L f)) (lt-ltb f n l) (rw e refl);
}
  where
    reading : (f : ℕ) → f < n → member L f ≡ false → (g : ℕ) × (g < 64) × (member (reads f) g ≡ true) × ((ltb g n && not (member L g)) ≡ true)
    reading f l e =
        let (g, k, r, u) = within_not (reads f) L (rw e at (none f l)) in
        (g, k, r, and_both (ltb g n) (not (member L g)) (lt-ltb g n (a.inside f g l k r)) (rw u refl))

module _ (reads : ℕ → ℕ) (n : ℕ) (a : Inside reads n) where
  following_stuck : (k L : ℕ) → count (unlisted? L) n ≤ k → (length (following reads n k L) ≡ count (unlisted? L) n) ⊎ StuckFields reads n
  unfolding following
  following_stuck zero L h = inl (omega arith)
  following_stuck (suc k) L h = go (step reads n k L) (λ f. following_stuck k (with L f))
    where
      stops : (b : Bool) → any (unlisted? L) n ≡ b → Stops reads n k L → (length (following reads n (suc k) L) ≡ count (unlisted? L) n) ⊎ StuckFields reads n
      stops true e s =
          let (f, l, u) = any_found (unlisted? L) n e in
          inr (stop_stuck reads n L a s.none f l (not-true (member L f) u))
      stops false e s = inl (rw s.is (sym (count_none (unlisted? L) n (λ f l. any_false (unlisted? L) n f e l))))

      go : ((f : ℕ) × Lists reads n k L f) ⊎ Stops reads n k L
          → ((f : ℕ) → count (unlisted? (with L f)) n ≤ k → (length (following reads n k (with L f)) ≡ count (unlisted? (with L f)) n) ⊎ StuckFields reads n)
          → (length (following reads n (suc k) L) ≡ count (unlisted? L) n) ⊎ StuckFields reads n
      go (inl (f, s)) ih =
          let c = unlisted_step reads n a.few L f s.low s.unlisted in
          lists (ih f (omega arith))
        where
          lists : (length (following reads n k (with L f)) ≡ count (unlisted? (with L f)) n) ⊎ StuckFields reads n
              → (length (following reads n (suc k) L) ≡ count (unlisted? L) n) ⊎ StuckFields reads n
          lists (inl e) = inl (rw s.is (ap suc e ∙ sym (unlisted_step reads n a.few L f s.low s.unlisted)))
          lists (inr t) = inr t
      go (inr s) ih = stops (any (unlisted? L) n) refl s

  loop_stuck : has_loop reads n ≡ true → StuckFields reads n
  unfolding order
  loop_stuck e = go (following_stuck n 0 (omega (arith, unlisted_all n)))
    where
      go : (length (order reads n) ≡ count (unlisted? 0) n) ⊎ StuckFields reads n → StuckFields reads n
      go (inl q) = absurd (clash e (length_no_loop reads n (q ∙ unlisted_all n)))
      go (inr t) = t

  -- ---- loops and closed walks

  -- a loop has a closed walk
  pub loop_walk : has_loop reads n ≡ true → ClosedWalk reads n
  loop_walk e = stuck_walk reads n (loop_stuck e)

-- ranks rise along a walk
pub walk_rises : (reads : ℕ → ℕ) (n : ℕ) (rank : ℕ → ℕ) → Ranked reads n n rank → (f g : ℕ) → Walk reads n f g → rank f < rank g
walk_rises reads n rank h f g (one r) = h.falls g f r.to r.from r.reads_it
walk_rises reads n rank h f g (more {g = x} w r) = omega (arith, walk_rises reads n rank h f x w, h.falls g x r.to r.from r.reads_it)

-- with ranks there is no closed walk
pub ranked_no_walk : (reads : ℕ → ℕ) (n : ℕ) (rank : ℕ → ℕ) → Ranked reads n n rank → ClosedWalk reads n → ⊥
ranked_no_walk reads n rank h w = omega (arith, walk_rises reads n rank h w.field w.field w.walk)

-- a closed walk is a loop
pub walk_loop : (reads : ℕ → ℕ) (n : ℕ) → n ≤ 64 → ClosedWalk reads n → has_loop reads n ≡ true
walk_loop reads n few w = go (has_loop reads n) refl
  where
    go : (b : Bool) → has_loop reads n ≡ b → b ≡ true
    go true e = refl
    go false e = absurd (ranked_no_walk reads n (rank_of reads n) (no_loop_ranked reads n few e) w)

-- with ranks there is no loop
pub ranked_no_loop : (reads : ℕ → ℕ) (n : ℕ) (rank : ℕ → ℕ) → Inside reads n → Ranked reads n n rank → has_loop reads n ≡ false
ranked_no_loop reads n rank a h = go (has_loop reads n) refl
  where
    go : (b : Bool) → has_loop reads n ≡ b → b ≡ false
    go true e = absurd (ranked_no_walk reads n rank h (loop_walk reads n a e))
    go false e = refl
