-- What is downstream is a walk of reads away. All goes by induction over a downstream set (`downstream_all`, `spread_all`) or along the walk.
use Prim.Native.Nat.{ℕ, ◌≤◌, ◌<◌}
use mathlib.Core.Path.{◌≡◌, refl}
use mathlib.Core.Bool.{true}
use mathlib.Core.Logic.{◌⊎◌, inl, inr}
use native.Mathlib.Omega.{arith}
use Rattle.fieldset.specs.Fields.{member}
use Rattle.ordering.specs.Walks.{Read, Walk, one, more}
use Rattle.downstream.specs.Downstream.{spread, downstream}
use Rattle.downstream.specs.Meaning.{IsWalk, Closed, SpreadIsWalk}
use Rattle.downstream.proofs.Spreading.{Passes, spread_has, spread_all, spread_closed, downstream_direct, downstream_closed, downstream_all}

pub walk_end : {reads : ℕ → ℕ} {n f g : ℕ} → Walk reads n f g → g < n
walk_end (one r) = r.to
walk_end (more w r) = r.to

pub walk_start : {reads : ℕ → ℕ} {n f g : ℕ} → Walk reads n f g → f < n
walk_start (one r) = r.from
walk_start (more w r) = walk_start w

module _ (reads : ℕ → ℕ) (n : ℕ) (few : n ≤ 64) where
  -- a walk whose first read comes into a closed set ends in it
  walk_in : (set f g : ℕ) → Closed reads n set → Walk reads n f g → ((g : ℕ) → Read reads n f g → member set g ≡ true) → member set g ≡ true
  walk_in set f g c (one r) h = h g r
  walk_in set f g c (more {g = x} w r) h = c.joins x g (omega (arith, r.from)) r.to r.reads_it (walk_in set f x c w h)

  pub downstream_walk : IsWalk reads n
  downstream_walk = record {
    to_walk = λ f g l e.
        downstream_all reads n (Walk reads n f) f (λ g k r. one (record { from = l; to = k; reads_it = r }))
        (λ h g k m r w. more w (record { from = walk_end w; to = m; reads_it = r })) g e;
    of_walk = λ f g w.
        walk_in (downstream reads n f) f g (downstream_closed reads n few f) w
        (λ g r. downstream_direct reads n few f g (omega (arith, walk_start w)) r.to r.reads_it);
  }

  -- g is changed, or a walk away from one that is
  abbrev Reached : ℕ → ℕ → Type 0
  Reached changed g = (member changed g ≡ true) ⊎ ((f : ℕ) × (member changed f ≡ true) × Walk reads n f g)

  pub spread_walk : (changed : ℕ) → ((f : ℕ) → member changed f ≡ true → f < n) → SpreadIsWalk reads n changed
  spread_walk changed low = record {
    to_walk = λ g e. spread_all reads n (Reached changed) changed (λ g i. inl i) pass g e;
    of_changed = λ g l e. spread_has reads n changed g l e;
    of_walk = λ f g i w.
        let closed = spread_closed reads n few changed in
        walk_in (spread reads n changed) f g closed w
        (λ g r. closed.joins f g (omega (arith, r.from)) r.to r.reads_it (spread_has reads n changed f (omega (arith, r.from)) i));
  }
    where
      pass : Passes reads n (Reached changed)
      pass f g l k r (inl i) = inr (f, i, one (record { from = low f i; to = k; reads_it = r }))
      pass f g l k r (inr (h, i, w)) = inr (h, i, more w (record { from = walk_end w; to = k; reads_it = r }))

  -- a field reads f, and is g or has g downstream
  abbrev pub Through : ℕ → ℕ → Type 0
  Through f g = (h : ℕ) × (h < n) × (member (reads h) f ≡ true) × ((h ≡ g) ⊎ (member (downstream reads n h) g ≡ true))

  -- the first read of a walk
  pub downstream_first : (f g : ℕ) → member (downstream reads n f) g ≡ true → Through f g
  downstream_first f g e = downstream_all reads n (Through f) f (λ g l r. (g, l, r, inl refl)) pass g e
    where
      pass : Passes reads n (Through f)
      pass x g l k r (h, m, q, inl d) = (h, m, q, inr (downstream_direct reads n few h g (omega arith) k (rw d r)))
      pass x g l k r (h, m, q, inr i) = (h, m, q, inr ((downstream_closed reads n few h).joins x g l k r i))

  -- what a reader has downstream, a field has downstream
  pub downstream_later : (f h g : ℕ) → f < 64 → h < n → member (reads h) f ≡ true → member (downstream reads n h) g ≡ true
      → member (downstream reads n f) g ≡ true
  downstream_later f h g low l r e =
      let closed = downstream_closed reads n few f in
      downstream_all reads n (λ g. member (downstream reads n f) g ≡ true) h
      (λ g k q. closed.joins h g (omega arith) k q (downstream_direct reads n few f h low l r)) closed.joins g e
