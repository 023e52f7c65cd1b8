-- No matching has more items up to a level L than the setters, where nothing is blocked: one injection and one pigeonhole. Let W be the fields
-- whose s is at most L. Send each pair to the field outside W that its item sets, or to its own field where there is none (`seat`). In the second
-- case the item waits or sets a field of W, so its outputs lie in W (`inner`). No two pairs meet (`seat_ne`), and the setter of each seat has level
-- at most L (`seat_low`).
use Prim.Native.Nat.{ℕ, ◌≤◌, ◌<◌}
use mathlib.Core.Path.{◌≡◌, refl, sym, ap, ◌∙◌}
use mathlib.Core.Bool.{Bool, true}
use mathlib.Core.List.{List, map}
use mathlib.Core.Logic.{◌≢◌, ◌⊎◌, inl, inr}
use native.Mathlib.Decide.{dec_lt}
use native.Mathlib.Omega.{arith}
use borrow.Author.Tests.{leb-true, le-leb}
use lib.Dec.{leb}
use lib.ListN.{length, length-map}
use Rattle.fieldset.specs.Lists.{In, passing}
use Rattle.fieldset.proofs.Lists.{all_in, in_all, map_all, in_passing, passing_in, passing_map, passing_distinct, distinct_map, pigeonhole, find}
use Rattle.panel.specs.Items.{Item}
use Rattle.panel.proofs.Reversed.{same_item}
use Rattle.optimality.specs.Condition3.{Pair, count_up_to}
use Rattle.optimality.proofs.Setters.{Graph, Unblocked}
use Rattle.optimality.proofs.Matchings.{Fits, Matches}

module _ (G : Graph) (st : ℕ → Item) (s : ℕ → ℕ) (un : Unblocked G st s) (L : ℕ) where
  -- the pair's item sets g, where s is above L
  abbrev Outer : Pair → ℕ → Type 0
  Outer x g = (st g ≡ x.item) × (L < s g)

  outer? : (x : Pair) (g : ℕ) → Dec (Outer x g)
  outer? x g = go (same_item (st g) x.item) (dec_lt L (s g))
    where
      go : Dec (st g ≡ x.item) → Dec (L < s g) → Dec (Outer x g)
      go (yes e) (yes h) = yes (e, h)
      go (yes e) (no h) = no (λ o. h o.1)
      go (no e) h = no (λ o. e o.0)

  -- a field for a pair: such a one, and the pair's own where there is none
  seat : Pair → ℕ
  seat x = elim (find (Outer x) (outer? x) G.n) [ inl o ↦ o.0 | inr h ↦ x.field ]

  abbrev Seat : Pair → ℕ → Type 0
  Seat x g = ((g < G.n) × Outer x g) ⊎ ((g ≡ x.field) × (s x.field ≤ L))

  -- where there is none, s is at most L at the outputs of the item
  inner : (x : Pair) → Fits G x → G.lev x.item ≤ L → ((g : ℕ) → g < G.n → Outer x g → ⊥) → s x.field ≤ L
  inner x fit le none = go (find (λ g. st g ≡ x.item) (λ g. same_item (st g) x.item) G.n)
    where
      go : ((g : ℕ) × (g < G.n) × (st g ≡ x.item)) ⊎ ((g : ℕ) → g < G.n → st g ≢ x.item) → s x.field ≤ L
      go (inl (g, l, e)) =
          let k : L < s g → ⊥ = λ h. none g l (e, h) in
          omega (arith, (un.potential g l).outs x.field fit.below (rw e fit.may))
      go (inr idle) = omega (arith, un.free x.item (record { force = fit.force; idle = idle }) x.field fit.below fit.may)

  seat_is : (x : Pair) → Fits G x → G.lev x.item ≤ L → Seat x (seat x)
  unfolding seat
  seat_is x fit le = go (find (Outer x) (outer? x) G.n)
    where
      go : (o : ((g : ℕ) × (g < G.n) × Outer x g) ⊎ ((g : ℕ) → g < G.n → Outer x g → ⊥)) → Seat x (elim o [ inl o ↦ o.0 | inr h ↦ x.field ])
      go (inl (g, l, o)) = inl (l, o)
      go (inr none) = inr (refl, inner x fit le none)

  seat_ne : (x y : Pair) (g k : ℕ) → Seat x g → Seat y k → x.item ≢ y.item → x.field ≢ y.field → g ≢ k
  seat_ne x y g k (inl a) (inl b) ni nf e = ni (sym a.1.0 ∙ ap st e ∙ b.1.0)
  seat_ne x y g k (inl a) (inr b) ni nf e = omega (arith, a.1.1, b.1, ap s (e ∙ b.0))
  seat_ne x y g k (inr a) (inl b) ni nf e = omega (arith, a.1, b.1.1, ap s (sym e ∙ a.0))
  seat_ne x y g k (inr a) (inr b) ni nf e = nf (sym a.0 ∙ e ∙ b.0)

  -- the setter of a seat has level at most L
  seat_low : (x : Pair) (g : ℕ) → Fits G x → G.lev x.item ≤ L → Seat x g → (g < G.n) × (G.lev (st g) ≤ L)
  seat_low x g fit le (inl h) = (h.0, rw h.1.0 le)
  seat_low x g fit le (inr h) = rw h.0 (fit.below, omega (arith, (un.potential x.field fit.below).level, h.1))

  -- up to L a matching has at most as many items as there are fields whose setter has level at most L
  pub matching_count : (fs : List ℕ) → ((f : ℕ) → f < G.n → In f fs) → (xs : List Pair) → Matches G xs
      → count_up_to G.lev L xs ≤ length (passing (λ f. leb (G.lev (st f)) L) fs)
  unfolding count_up_to
  matching_count fs whole xs m =
      rw (passing_map (λ (x : Pair). x.item) (λ c. leb (G.lev c) L) xs, length-map ys (λ (x : Pair). x.item), ← length-map ys seat)
      (pigeonhole (map seat ys) (passing q fs)
      (distinct_map (λ (x : Pair). x.item) (λ (x : Pair). x.field) seat ys
      (passing_distinct (λ (x : Pair). x.item) low xs m.items_once) (passing_distinct (λ (x : Pair). x.field) low xs m.fields_once)
      (λ x y i j. seat_ne x y (seat x) (seat y) (seated x i) (seated y j)))
      (map_all seat (λ g. In g (passing q fs)) ys (in_all (λ x. In (seat x) (passing q fs)) ys into)))
    where
      q : ℕ → Bool
      q f = leb (G.lev (st f)) L

      low : Pair → Bool
      low x = leb (G.lev x.item) L

      ys : List Pair
      ys = passing low xs

      fit : (x : Pair) → In x ys → Fits G x × (G.lev x.item ≤ L)
      fit x i =
          let (k, e) = all_in (λ x. In x xs × (low x ≡ true)) ys x (passing_in low xs) i in
          (all_in (Fits G) xs x m.fits k, leb-true (G.lev x.item) L e)

      seated : (x : Pair) → In x ys → Seat x (seat x)
      seated x i = seat_is x (fit x i).0 (fit x i).1

      into : (x : Pair) → In x ys → In (seat x) (passing q fs)
      into x i =
          let (l, h) = seat_low x (seat x) (fit x i).0 (fit x i).1 (seated x i) in
          in_passing q fs (seat x) (whole (seat x) l) (le-leb (G.lev (st (seat x))) L h)
