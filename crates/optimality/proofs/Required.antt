-- Conflict, both ways. A new item of level 0 that waits while nothing is blocked leaves no matching that holds all items of level 0: it would count
-- more at level 0 than the setters, which count most (`required_impossible`). One that is blocked goes in by a reversal that holds them all: what
-- then waits instead has the level K of the path, which is above 0 (`reversal_holds`).
use Prim.Native.Nat.{ℕ, ◌≤◌, ◌<◌}
use mathlib.Core.Path.{◌≡◌, sym}
use mathlib.Core.Bool.{true}
use mathlib.Core.List.{List, map, map-id}
use mathlib.Core.Logic.{◌≢◌, ◌⊎◌, inl, inr}
use native.Mathlib.Omega.{arith}
use Rattle.fieldset.specs.Lists.{In, Distinct}
use Rattle.fieldset.proofs.Lists.{all_in, all_map, in_map, map_all, distinct_map, find, Whole, whole_in}
use Rattle.panel.specs.Items.{Item}
use Rattle.panel.proofs.Reversed.{same_item, reversed_setters}
use Rattle.optimality.specs.Condition3.{Pair, items, count_up_to}
use Rattle.optimality.proofs.Setters.{Graph, Waits, Assigned, Under, Unblocked, Reversible}
use Rattle.optimality.proofs.Matchings.{Fits, Matches, holds_more, pair_of, pairs, pairs_items, pairs_fields, pairs_count, item_pairs}
use Rattle.optimality.proofs.Counting.{matching_count}
use Rattle.optimality.proofs.Reversal.{reversal_waits}

-- all items of level 0 are held
abbrev pub HoldsAll : Graph → List Pair → Type 0
HoldsAll G xs = (d : Item) → G.force d ≡ true → G.lev d ≡ 0 → In d (items xs)

module _ (G : Graph) (st : ℕ → Item) (fs : List ℕ) (w : Whole G.n fs) where
  below : (f : ℕ) → In f fs → f < G.n
  below f = all_in (λ f. f < G.n) fs f w.below

  -- setters make a matching
  pub pairs_match : Assigned G st → Matches G (pairs st fs)
  pairs_match a =
      record {
        fits =
            map_all (pair_of st) (Fits G) fs
            (all_map (λ f. f < G.n) (λ f. Fits G (pair_of st f)) (λ f l. record { force = a.force f l; below = l; may = a.may f l }) fs w.below);
        items_once = rw (pairs_items st fs) (distinct_map (λ f. f) (λ f. f) st fs once once (λ f g i j ne _ e. ne (a.single f g (below f i) (below g j) e)));
        fields_once = rw (pairs_fields st fs) w.once;
      }
    where
      once : Distinct (map (λ f. f) fs)
      once = rw (map-id fs) w.once

  -- where nothing is blocked no matching has more
  pub pairs_most : (s : ℕ → ℕ) → Unblocked G st s → (L : ℕ) (xs : List Pair) → Matches G xs
      → count_up_to G.lev L xs ≤ count_up_to G.lev L (pairs st fs)
  pairs_most s un L xs m = rw (pairs_count st G.lev L fs) (matching_count G st s un L fs (whole_in G.n fs w) xs m)

  -- an item in force is held where it does not wait
  pub pairs_hold : (d : Item) → G.force d ≡ true → (Waits G st d → ⊥) → In d (items (pairs st fs))
  pairs_hold d fd no_wait = go (find (λ f. st f ≡ d) (λ f. same_item (st f) d) G.n)
    where
      go : ((f : ℕ) × (f < G.n) × (st f ≡ d)) ⊎ ((f : ℕ) → f < G.n → st f ≢ d) → In d (items (pairs st fs))
      go (inl (f, l, e)) = rw (pairs_items st fs, ← e) (in_map st f fs (whole_in G.n fs w f l))
      go (inr idle) = absurd (no_wait (record { force = fd; idle = idle }))

  -- an item of level 0 waits, and nothing is blocked: no matching holds all items of level 0
  pub required_impossible : (s : ℕ → ℕ) → Assigned G st → Unblocked G st s → (c : Item) → Waits G st c → G.lev c ≡ 0 → (xs : List Pair)
      → Matches G xs → HoldsAll G xs → ⊥
  required_impossible s a un c wc lc xs m all = omega (arith, pairs_most s un 0 xs m, more)
    where
      held : (d : Item) → G.lev d ≤ 0 → In d (items (pairs st fs)) → In d (items xs)
      held d le k =
          let (f, i, e) = item_pairs st fs d k in
          all d (rw e (a.force f (below f i))) (omega arith)

      missed : In c (items (pairs st fs)) → ⊥
      missed k = let (f, i, e) = item_pairs st fs c k in wc.idle f (below f i) (sym e)

      more : count_up_to G.lev 0 (pairs st fs) < count_up_to G.lev 0 xs
      more = holds_more G.lev 0 xs (pairs st fs) c (pairs_match a).items_once held (all c wc.force lc) (omega arith) missed

-- c waits, all other items of level 0 are held, and c goes in along a path: all are held
module _ {G : Graph} {st : ℕ → Item} {s : ℕ → ℕ} {K : ℕ} {c : Item} {vs : List ℕ} (r : Reversible G st s K c vs) (fs : List ℕ) (w : Whole G.n fs) where
  pub reversal_holds : ((d : Item) → Waits G st d → d ≢ c → G.lev d ≢ 0) → HoldsAll G (pairs (reversed_setters st c vs) fs)
  reversal_holds held d fd ld = pairs_hold G (reversed_setters st c vs) fs w d fd (λ h. go (reversal_waits r d h))
    where
      go : ((G.lev d ≡ K) × Under G s K d) ⊎ (Waits G st d × (d ≢ c)) → ⊥
      go (inl (e, un)) = omega (arith, r.over)
      go (inr (h, ne)) = held d h ne ld
