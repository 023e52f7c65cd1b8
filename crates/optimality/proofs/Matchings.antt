-- Matchings as lists of pairs: what they hold up to a level, and the matching that setters make. Who holds all that another holds up to a level,
-- and one item more, counts more there: a list without repeats that lies in another is not longer (`holds_more`).
use Prim.Native.Nat.{ℕ, ◌≤◌, ◌<◌}
use mathlib.Core.Path.{◌≡◌, refl, ap, ◌∙◌}
use mathlib.Core.Bool.{Bool, true}
use mathlib.Core.List.{List, ◌∷◌, map, map-id, map-map}
use mathlib.Core.Logic.{◌≢◌}
use borrow.Author.Tests.{leb-true, le-leb}
use lib.Dec.{leb}
use lib.ListN.{length, length-map}
use Rattle.fieldset.specs.Lists.{In, All, Distinct, passing}
use Rattle.fieldset.proofs.Lists.{all_in, in_all, all_map, map_in, map_all, in_passing, passing_in, passing_cong, passing_map, passing_distinct, pigeonhole}
use Rattle.panel.specs.Items.{Item}
use Rattle.optimality.specs.Condition3.{Pair, items, fields, count_up_to}
use Rattle.optimality.proofs.Setters.{Graph}

-- a pair that a matching of the graph may have
pub record Fits (G : Graph) (x : Pair) : Type 0 where
  pub force : G.force x.item ≡ true
  pub below : x.field < G.n
  pub may : G.out x.item x.field ≡ true

pub record Matches (G : Graph) (xs : List Pair) : Type 0 where
  pub fits : All (Fits G) xs
  pub items_once : Distinct (items xs)
  pub fields_once : Distinct (fields xs)

-- ---- the items up to a level

module _ (lev : Item → ℕ) (L : ℕ) where
  abbrev low : Item → Bool
  low c = leb (lev c) L

  -- xs holds what ys holds up to L, and c besides: up to L it holds more
  pub holds_more : (xs ys : List Pair) (c : Item) → Distinct (items ys) → ((d : Item) → lev d ≤ L → In d (items ys) → In d (items xs))
      → In c (items xs) → lev c ≤ L → (In c (items ys) → ⊥) → count_up_to lev L ys < count_up_to lev L xs
  unfolding count_up_to
  holds_more xs ys c d h m le out =
      pigeonhole (c ∷ passing low (items ys)) (passing low (items xs)) (apart, once) (in_passing low (items xs) c m (le-leb (lev c) L le), into)
    where
      Low : Item → Type 0
      Low y = In y (items ys) × (low y ≡ true)

      apart : All (λ y. c ≢ y) (passing low (items ys))
      apart = all_map Low (λ y. c ≢ y) (λ y (k, t) e. out (rw e k)) (passing low (items ys)) (passing_in low (items ys))

      once : Distinct (passing low (items ys))
      once = rw (passing_map (λ (x : Pair). x.item) low ys) (passing_distinct (λ (x : Pair). x.item) (λ x. low x.item) ys d)

      into : All (λ y. In y (passing low (items xs))) (passing low (items ys))
      into =
          all_map Low (λ y. In y (passing low (items xs))) (λ y (k, t). in_passing low (items xs) y (h y (leb-true (lev y) L t) k) t)
          (passing low (items ys)) (passing_in low (items ys))

-- counts go by the levels of the items
pub count_cong : (lev lev' : Item → ℕ) (L : ℕ) (xs : List Pair) → All (λ x. lev x.item ≡ lev' x.item) xs
    → count_up_to lev L xs ≡ count_up_to lev' L xs
unfolding count_up_to
count_cong lev lev' L xs a =
    ap (λ (cs : List Item). length cs)
    (passing_cong (λ c. leb (lev c) L) (λ c. leb (lev' c) L) (items xs)
    (map_all (λ (x : Pair). x.item) (λ c. leb (lev c) L ≡ leb (lev' c) L) xs
    (all_map (λ x. lev x.item ≡ lev' x.item) (λ x. leb (lev x.item) L ≡ leb (lev' x.item) L) (λ x e. ap (λ (l : ℕ). leb l L) e) xs a)))

-- ---- the matching that setters make

module _ (st : ℕ → Item) where
  abbrev pub pair_of : ℕ → Pair
  pair_of f = record { item = st f; field = f }

  -- each field of a list with its setter
  abbrev pub pairs : List ℕ → List Pair
  pairs = map pair_of

  pub pairs_items : (fs : List ℕ) → items (pairs fs) ≡ map st fs
  pairs_items fs = map-map (λ (x : Pair). x.item) pair_of fs

  pub pairs_fields : (fs : List ℕ) → fields (pairs fs) ≡ fs
  pairs_fields fs = map-map (λ (x : Pair). x.field) pair_of fs ∙ map-id fs

  pub pairs_count : (lev : Item → ℕ) (L : ℕ) (fs : List ℕ) → count_up_to lev L (pairs fs) ≡ length (passing (λ f. leb (lev (st f)) L) fs)
  unfolding count_up_to
  pairs_count lev L fs =
      rw (pairs_items fs, passing_map st (λ c. leb (lev c) L) fs) (length-map (passing (λ f. leb (lev (st f)) L) fs) st)

  -- an item that is held sets a field of the list
  pub item_pairs : (fs : List ℕ) (c : Item) → In c (items (pairs fs)) → (f : ℕ) × In f fs × (c ≡ st f)
  item_pairs fs c m = map_in st c fs (rw (pairs_items fs) at m)

  -- the item of a pair that is held is the setter of its field
  pub pair_setter : (fs : List ℕ) (x : Pair) → In x (pairs fs) → In x.field fs × (x.item ≡ st x.field)
  pair_setter fs x m =
      all_in (λ x. In x.field fs × (x.item ≡ st x.field)) (pairs fs) x
      (map_all pair_of (λ x. In x.field fs × (x.item ≡ st x.field)) fs (in_all (λ f. In f fs × (st f ≡ st f)) fs (λ f k. (k, refl)))) m
