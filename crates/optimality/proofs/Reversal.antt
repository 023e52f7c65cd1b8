-- A reversible path reversed: a potential stays one, what waits afterwards, and nothing is blocked. By induction on the path, one field set anew at
-- a time, with an item carried along that the potential has under K; at the end the item left over has level K, and its outputs are at most K, so
-- that it is not blocked either (`reversal_unblocked`).
use Prim.Native.Nat.{ℕ, ◌<◌}
use mathlib.Core.Path.{◌≡◌, sym, ap, ◌∙◌}
use mathlib.Core.List.{List, [], ◌∷◌}
use mathlib.Core.Logic.{◌≢◌, ◌⊎◌, inl, inr}
use native.Mathlib.Decide.{ℕ_discrete}
use Rattle.fieldset.specs.Lists.{Distinct}
use Rattle.panel.specs.Items.{Item}
use Rattle.panel.proofs.Reversed.{same_item, put, put_here, put_there, reversed_setters, left, Off}
use Rattle.optimality.proofs.Setters.{Graph, Waits, Under, Potential, Free, Unblocked, Chain, Reversible}

-- ---- one field set anew

module _ (G : Graph) (st : ℕ → Item) (v : ℕ) (c : Item) where
  put_potential : (s : ℕ → ℕ) → Potential G st s → Under G s (s v) c → Potential G (put st v c) s
  put_potential s po un f l = go (ℕ_discrete f v)
    where
      go : Dec (f ≡ v) → Under G s (s f) (put st v c f)
      go (yes q) = rw (q, put_here st v c) un
      go (no q) = rw (put_there st v c f q) (po f l)

  -- what waits, but for what stood at v, waited before and is not c
  put_waits : (w : Item) → v < G.n → Waits G (put st v c) w → w ≢ st v → Waits G st w × (w ≢ c)
  put_waits w l h ne = (record { force = h.force; idle = λ f lf e. go f lf e (ℕ_discrete f v) }, λ e. h.idle v l (put_here st v c ∙ sym e))
    where
      go : (f : ℕ) → f < G.n → st f ≡ w → Dec (f ≡ v) → ⊥
      go f lf e (yes q) = ne (sym e ∙ ap st q)
      go f lf e (no q) = h.idle f lf (put_there st v c f q ∙ e)

-- ---- along a path

module _ (G : Graph) (s : ℕ → ℕ) (K : ℕ) where
  -- a path that does not meet v is one also when v is set anew
  pub chain_put : (st : ℕ → Item) (v : ℕ) (d c : Item) (vs : List ℕ) → Off v vs → Chain G s K st c vs → Chain G s K (put st v d) c vs
  unfolding Chain
  chain_put st v d c [] a ch = ch
  chain_put st v d c (x ∷ xs) a ch = (ch.0, rw (put_there st v d x (λ e. a.0 (sym e))) (chain_put st v d (st x) xs a.1 ch.1))

  -- a potential stays one, and what is left over has level K, and outputs that are at most K
  setters_potential : (vs : List ℕ) (st : ℕ → Item) (c : Item) → Distinct vs → Chain G s K st c vs → Potential G st s → Under G s K c
      → Potential G (reversed_setters st c vs) s × Under G s K (left st c vs) × (G.lev (left st c vs) ≡ K)
  unfolding reversed_setters left Chain
  setters_potential [] st c d ch po un = (po, un, ch)
  setters_potential (v ∷ vs) st c d ch po un =
      setters_potential vs (put st v c) (st v) d.1 (chain_put st v c (st v) vs d.0 ch.1)
      (put_potential G st v c s po (rw ch.0.at_top un)) (rw (← ch.0.at_top) (po v ch.0.below))

  -- anything else that waits afterwards waited before and is not c
  setters_waits : (vs : List ℕ) (st : ℕ → Item) (c : Item) → Distinct vs → Chain G s K st c vs → (w : Item) → Waits G (reversed_setters st c vs) w
      → w ≢ left st c vs → Waits G st w × (w ≢ c)
  unfolding reversed_setters left Chain
  setters_waits [] st c d ch w h ne = (h, ne)
  setters_waits (v ∷ vs) st c d ch w h ne =
      let (a, b) = setters_waits vs (put st v c) (st v) d.1 (chain_put st v c (st v) vs d.0 ch.1) w h ne in
      put_waits G st v c w ch.0.below a b

module _ {G : Graph} {st : ℕ → Item} {s : ℕ → ℕ} {K : ℕ} {c : Item} {vs : List ℕ} (r : Reversible G st s K c vs) where
  -- what waits afterwards: the setter of the last field, which has level K and outputs that are at most K, or what waited before and is not c
  pub reversal_waits : (w : Item) → Waits G (reversed_setters st c vs) w → ((G.lev w ≡ K) × Under G s K w) ⊎ (Waits G st w × (w ≢ c))
  reversal_waits w h = go (same_item w (left st c vs))
    where
      go : Dec (w ≡ left st c vs) → ((G.lev w ≡ K) × Under G s K w) ⊎ (Waits G st w × (w ≢ c))
      go (yes e) = let (p, a, b) = setters_potential G s K vs st c r.distinct r.chain r.potential r.under in inl (rw e (b, a))
      go (no e) = inr (setters_waits G s K vs st c r.distinct r.chain w h e)

  pub reversal_potential : Potential G (reversed_setters st c vs) s
  reversal_potential = (setters_potential G s K vs st c r.distinct r.chain r.potential r.under).0

  -- nothing but c was blocked: nothing is blocked
  pub reversal_unblocked : ((w : Item) → Waits G st w → w ≢ c → Free G s w) → Unblocked G (reversed_setters st c vs) s
  reversal_unblocked fr = record { potential = reversal_potential; free = λ w h. go w (reversal_waits w h) }
    where
      go : (w : Item) → ((G.lev w ≡ K) × Under G s K w) ⊎ (Waits G st w × (w ≢ c)) → Free G s w
      go w (inl (e, un)) u lu ou = rw e (un.outs u lu ou)
      go w (inr (h, ne)) u lu ou = fr w h ne u lu ou
