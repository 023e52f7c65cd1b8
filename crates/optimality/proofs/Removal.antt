-- A setter is removed, the stay c1 of its field v stands in, and the least item d that is then blocked goes in: nothing is blocked. Let s0 be the
-- strengths before, s1 those with c1 in, and t the larger of d's level and s0. The path for d ends at v, since before v the items carried are under
-- d's level by t (`fill`); so t is a potential after it, and s1 is one too. The lesser of the two blocks nothing: s1 serves items below d's level,
-- t the others (`removal_unblocked`).
use Prim.Native.Nat.{ℕ, ◌≤◌, ◌<◌, min, max}
use mathlib.Core.Path.{◌≡◌, sym, ap, ◌∙◌}
use mathlib.Core.Bool.{Bool, true}
use mathlib.Core.List.{List, [], ◌∷◌}
use mathlib.Core.Logic.{◌≢◌, ◌⊎◌, inl, inr}
use native.Mathlib.Nat.{le_refl}
use native.Mathlib.Decide.{ℕ_discrete}
use native.Mathlib.Omega.{arith}
use Rattle.fieldset.specs.Lists.{Distinct}
use Rattle.panel.specs.Items.{Item}
use Rattle.panel.proofs.Reversed.{put, put_here, put_there, reversed_setters}
use Rattle.optimality.proofs.Setters.{Graph, Waits, Under, Potential, Free, Unblocked, under_trans, Chain, Reversible}
use Rattle.optimality.proofs.Reversal.{chain_put, reversal_potential, reversal_waits}

-- the lesser of two potentials is one
min_potential : (G : Graph) (st : ℕ → Item) (a b : ℕ → ℕ) → Potential G st a → Potential G st b → Potential G st (λ f. min (a f) (b f))
min_potential G st a b pa pb f l =
    record { level = omega (arith, (pa f l).level, (pb f l).level); outs = λ u lu ou. omega (arith, (pa f l).outs u lu ou, (pb f l).outs u lu ou) }

-- a potential but at v
abbrev PotentialBut : Graph → (ℕ → Item) → (ℕ → ℕ) → ℕ → Type 0
PotentialBut G st t v = (f : ℕ) → f < G.n → f ≢ v → Under G t (t f) (st f)

-- t, at least l, is a potential but at v: a path at the level K over l, for an item that t has under l, ends at v, and t is a potential after it
module _ (G : Graph) (s t : ℕ → ℕ) (l K v : ℕ) (c1 : Item) (lK : l < K) (lt : (f : ℕ) → l ≤ t f) (top : K ≤ G.lev c1) where
  fill : (vs : List ℕ) (st : ℕ → Item) (c : Item) → Distinct vs → Chain G s K st c vs → st v ≡ c1 → PotentialBut G st t v → Under G t l c
      → Potential G (reversed_setters st c vs) t
  unfolding reversed_setters Chain
  fill [] st c d ch e po un = absurd (omega (arith, un.level))
  fill (x ∷ vs) st c d ch e po un = go (ℕ_discrete x v) vs (chain_put G s K st x c (st x) vs d.0 ch.1) d.1 (fill vs (put st x c) (st x))
    where
      at : (f : ℕ) → f < G.n → f ≢ v ⊎ (x ≡ v) → Dec (f ≡ x) → Under G t (t f) (put st x c f)
      at f lf o (yes q) = rw (q, put_here st x c) (under_trans G t l (t x) c (lt x) un)
      at f lf (inl o) (no q) = rw (put_there st x c f q) (po f lf o)
      at f lf (inr o) (no q) = rw (put_there st x c f q) (po f lf (λ d. q (d ∙ sym o)))

      go : Dec (x ≡ v) → (vs : List ℕ) → Chain G s K (put st x c) (st x) vs → Distinct vs
          → (Distinct vs → Chain G s K (put st x c) (st x) vs → put st x c v ≡ c1 → PotentialBut G (put st x c) t v → Under G t l (st x)
          → Potential G (reversed_setters (put st x c) (st x) vs) t)
          → Potential G (reversed_setters (put st x c) (st x) vs) t
      go (yes q) [] w d ih = λ f lf. at f lf (inr q) (ℕ_discrete f x)
      go (yes q) (y ∷ ys) w d ih = absurd (omega (arith, w.0.weaker, ap G.lev (ap st q ∙ e)))
      go (no q) vs w d ih =
          ih d w (put_there st x c v (λ d. q (sym d)) ∙ e) (λ f lf nf. at f lf (inl nf) (ℕ_discrete f x))
          (under_trans G t (t x) l (st x) (un.outs x ch.0.below ch.0.may) (po x ch.0.below q))

-- nothing is blocked under s0; the setter of v is removed, so that F is in force, and c1, which may set v alone, steps in for it
module _ (G : Graph) (F : Item → Bool) (st : ℕ → Item) (s0 : ℕ → ℕ) (un : Unblocked G st s0) (v : ℕ) (c1 : Item)
    (c1_only : (u : ℕ) → u < G.n → G.out c1 u ≡ true → u ≡ v)
    (kept : (w : Item) → F w ≡ true → (G.force w ≡ true) × (w ≢ st v)) where
  abbrev pub without : Graph
  without = record { n = G.n; lev = G.lev; out = G.out; force = F }

  pub struck_waits : (w : Item) → Waits without (put st v c1) w → Waits G st w
  struck_waits w h = record { force = (kept w h.force).0; idle = λ f lf e. go f lf e (ℕ_discrete f v) }
    where
      go : (f : ℕ) → f < G.n → st f ≡ w → Dec (f ≡ v) → ⊥
      go f lf e (yes q) = (kept w h.force).1 (sym e ∙ ap st q)
      go f lf e (no q) = h.idle f lf (put_there st v c1 f q ∙ e)

  -- no strength is above that of before and the level of c1
  pub struck_potential : Potential without (put st v c1) (λ f. max (G.lev c1) (s0 f))
  struck_potential f l = go (ℕ_discrete f v)
    where
      go : Dec (f ≡ v) → Under without (λ f. max (G.lev c1) (s0 f)) (max (G.lev c1) (s0 f)) (put st v c1 f)
      go (yes q) = rw (q, put_here st v c1) (record { level = omega arith; outs = λ u lu ou. rw (c1_only u lu ou) (le_refl _) })
      go (no q) =
          let un_f = un.potential f l in
          rw (put_there st v c1 f q) (record { level = omega (arith, un_f.level); outs = λ u lu ou. omega (arith, un_f.outs u lu ou) })

  -- s1 is the least potential afterwards; d is the least item that is blocked, and goes in along vs, at the greatest s1 of its outputs
  module _ (s1 : ℕ → ℕ) (least_po : (f : ℕ) → f < G.n → s1 f ≤ max (G.lev c1) (s0 f)) (d : Item) (d_waits : Waits without (put st v c1) d)
      (d_least : (w : Item) → Waits without (put st v c1) w → Free without s1 w ⊎ (G.lev d ≤ G.lev w))
      (u : ℕ) (u_below : u < G.n) (u_out : G.out d u ≡ true) (vs : List ℕ) (r : Reversible without (put st v c1) s1 (s1 u) d vs) where
    abbrev t : ℕ → ℕ
    t f = max (G.lev d) (s0 f)

    top : s1 u ≤ G.lev c1
    top = omega (arith, r.over, least_po u u_below, un.free d (struck_waits d d_waits) u u_below u_out)

    high_side : Potential without (reversed_setters (put st v c1) d vs) t
    high_side =
        fill without s1 t (G.lev d) (s1 u) v c1 r.over (λ f. omega arith) top vs (put st v c1) d r.distinct r.chain (put_here st v c1)
        (λ f lf nf. rw (put_there st v c1 f nf) (over_under f lf))
        (record { level = le_refl _; outs = λ w lw ow. omega (arith, un.free d (struck_waits d d_waits) w lw ow) })
      where
        over_under : (f : ℕ) → f < G.n → Under without t (t f) (st f)
        over_under f lf =
            let un_f = un.potential f lf in
            record { level = omega (arith, un_f.level); outs = λ w lw ow. omega (arith, un_f.outs w lw ow) }

    pub removal_unblocked : Unblocked without (reversed_setters (put st v c1) d vs) (λ f. min (s1 f) (t f))
    removal_unblocked =
        record {
          potential = min_potential without (reversed_setters (put st v c1) d vs) s1 t (reversal_potential r) high_side;
          free = λ w h. go w (reversal_waits r w h);
        }
      where
        free : (w : Item) → Waits without (put st v c1) w → Free without s1 w ⊎ (G.lev d ≤ G.lev w) → Free without (λ f. min (s1 f) (t f)) w
        free w h (inl fr) x lx ox = omega (arith, fr x lx ox)
        free w h (inr le) x lx ox = omega (arith, un.free w (struck_waits w h) x lx ox)

        go : (w : Item) → ((G.lev w ≡ s1 u) × Under without s1 (s1 u) w) ⊎ (Waits without (put st v c1) w × (w ≢ d))
            → Free without (λ f. min (s1 f) (t f)) w
        go w (inl (e, under)) x lx ox = omega (arith, under.outs x lx ox)
        go w (inr (h, ne)) x lx ox = free w h (d_least w h) x lx ox
