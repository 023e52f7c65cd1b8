-- The first item of least level that passes a test: by induction on the list, by cases on the test and on the comparison with what is found behind;
-- in a list that rises by position the first is that of the lowest position. Every item in force stands in the list of all items, which rises, so that
-- the least blocked one is least among all.
use Prim.Native.Nat.{ℕ, zero, suc, ◌+◌, ◌≤◌, ◌<◌}
use mathlib.Core.Path.{◌≡◌, refl, subst}
use mathlib.Core.Bool.{Bool, true, false, cond, not-eq-not}
use mathlib.Core.List.{List, [], ◌∷◌, ◌++◌, map, map-append, append_assoc, append-nil}
use mathlib.Core.Option.{Option, none, some}
use native.Mathlib.Nat.{le_refl, le_trans, add-suc}
use native.Mathlib.Omega.{arith}
use borrow.Author.Tests.{leb-true, leb-false, ltb-true}
use lib.Dec.{leb}
use lib.ListN.{length}
use Rattle.fieldset.specs.Lists.{In, All}
use Rattle.fieldset.proofs.Lists.{all_in, all_map, all_append, in_left, in_right, in_map, in_tabulate}
use Rattle.fieldset.specs.Tables.{tabulate}
use Rattle.fieldset.proofs.Numbers.{clash}
use Rattle.panel.specs.declared.Panel.{Panel}
use Rattle.panel.specs.Items.{Item, link, stay, in_force, items_of}
use Rattle.panel.specs.Solution.{level, is_blocked, lesser, least, least_blocked}
use Rattle.panel.specs.Legal.{Legal}
use Rattle.panel.proofs.Legal.{force_small}
use Rattle.panel.proofs.Setters.{waits_force}
use Rattle.panel.proofs.Reversal.{blocking}

-- ---- all items

-- every item in force stands in the list of all items
item_listed : (p : Panel) → length p.links ≡ 128 → (c : Item) → in_force p.size p.links c ≡ true → In c (items_of p.size)
unfolding items_of
item_listed p long (link i) u =
    in_left (link i) (map link (tabulate (λ i. i) 128)) (map stay (tabulate (λ f. f) p.size))
    (in_map link i (tabulate (λ i. i) 128) (in_tabulate 128 i (force_small p.links i long u)))
item_listed p long (stay f) u =
    in_right (stay f) (map link (tabulate (λ i. i) 128)) (map stay (tabulate (λ f. f) p.size))
    (in_map stay f (tabulate (λ f. f) p.size) (in_tabulate p.size f (ltb-true f p.size u)))

-- the position of an item there
abbrev pub position_of : Item → ℕ
position_of (link i) = i
position_of (stay f) = 128 + f

-- each entry has a lower position than those behind it
abbrev Rises : List Item → Type 0
Rises [] = Unit {0}
Rises (c ∷ cs) = All (λ d. position_of c < position_of d) cs × Rises cs

-- a list that rises, all of it below position b
abbrev Below : ℕ → List Item → Type 0
Below b cs = Rises cs × All (λ c. position_of c < b) cs

below_behind : (cs : List Item) (d : Item) → Below (position_of d) cs → Below (suc (position_of d)) (cs ++ d ∷ [])
below_behind [] d h = ((tt, tt), (le_refl _, tt))
below_behind (c ∷ cs) d ((a, r), (l, b)) =
    let (s, m) = below_behind cs d (r, b) in
    ((all_append (λ x. position_of c < position_of x) cs (d ∷ []) a (l, tt), s), (omega arith, m))

links_below : (n : ℕ) → Below n (map link (tabulate (λ i. i) n))
unfolding tabulate
links_below zero = (tt, tt)
links_below (suc n) =
    rw (map-append link (tabulate (λ i. i) n) (n ∷ [])) (below_behind (map link (tabulate (λ i. i) n)) (link n) (links_below n))

stays_below : (cs : List Item) → Below 128 cs → (n : ℕ) → Below (128 + n) (cs ++ map stay (tabulate (λ f. f) n))
unfolding tabulate
stays_below cs h zero = rw (append-nil cs) h
stays_below cs h (suc n) =
    let xs = map stay (tabulate (λ f. f) n) in
    rw (add-suc 128 n, map-append stay (tabulate (λ f. f) n) (n ∷ []), ← append_assoc cs xs (stay n ∷ []))
    (below_behind (cs ++ xs) (stay n) (stays_below cs h n))

items_rise : (n : ℕ) → Rises (items_of n)
unfolding items_of
items_rise n = (stays_below (map link (tabulate (λ i. i) 128)) (links_below 128) n).0

-- ---- the least

-- what is found has the least level of those that pass, and less than those of a lower position; where nothing is found none passes
abbrev Least : (Item → Bool) → (Item → ℕ) → List Item → Option Item → Type 0
Least q lev cs none = All (λ c. q c ≡ false) cs
Least q lev cs (some d) =
    (q d ≡ true) × All (λ c. q c ≡ true → lev d ≤ lev c) cs × (Rises cs → All (λ c. q c ≡ true → position_of c < position_of d → lev d < lev c) cs)

least_is : (q : Item → Bool) (lev : Item → ℕ) (cs : List Item) → Least q lev cs (least q lev cs)
unfolding least
least_is q lev [] = tt
least_is q lev (c ∷ cs) = go (q c) refl (least q lev cs) (least_is q lev cs)
  where
    first : Rises (c ∷ cs) → All (λ x. q x ≡ true → position_of x < position_of c → lev c < lev x) (c ∷ cs)
    first r = (
      (λ k l. omega arith),
      all_map (λ x. position_of c < position_of x) (λ x. q x ≡ true → position_of x < position_of c → lev c < lev x) (λ x m k l. omega arith) cs r.0,
    )

    pick : (d : Item) (b : Bool) → q c ≡ true → leb (lev c) (lev d) ≡ b → Least q lev cs (some d) → Least q lev (c ∷ cs) (cond b (some c) (some d))
    pick d true e t h =
        let le : lev c ≤ lev d = leb-true (lev c) (lev d) t in
        (e, ((λ k. le_refl _), all_map (λ x. q x ≡ true → lev d ≤ lev x) (λ x. q x ≡ true → lev c ≤ lev x) (λ x k i. le_trans le (k i)) cs h.1), first)
    pick d false e t h =
        let lt : lev d < lev c = leb-false (lev c) (lev d) t in
        (h.0, ((λ k. omega arith), h.1), λ r. ((λ k l. lt), h.2 r.1))

    found : (r : Option Item) → q c ≡ true → Least q lev cs r → Least q lev (c ∷ cs) (lesser lev c r)
    found none e h =
        (e, ((λ k. le_refl _), all_map (λ x. q x ≡ false) (λ x. q x ≡ true → lev c ≤ lev x) (λ x f t. absurd (clash t f)) cs h), first)
    found (some d) e h = pick d (leb (lev c) (lev d)) e refl h

    go : (b : Bool) → q c ≡ b → (r : Option Item) → Least q lev cs r → Least q lev (c ∷ cs) (cond b (lesser lev c r) r)
    go true e r h = found r e h
    go false e none h = (e, h)
    go false e (some d) h = (h.0, ((λ k. absurd (clash k e)), h.1), λ r. ((λ k. absurd (clash k e)), h.2 r.1))

-- what is found passes the test
pub least_passes : (q : Item → Bool) (lev : Item → ℕ) (cs : List Item) (d : Item) → least q lev cs ≡ some d → q d ≡ true
least_passes q lev cs d e = (subst (Least q lev cs) e (least_is q lev cs)).0

-- ---- the least blocked item

pub blocked_force : (p : Panel) (c : Item) → is_blocked p c ≡ true → in_force p.size p.links c ≡ true
blocked_force p c b = waits_force p.size p.links p.setter c (blocking p c b).waits_now

-- the same among all items, of any panel whose table of links is whole
abbrev pub LeastBlocked : Panel → Option Item → Type 0
LeastBlocked p none = (c : Item) → is_blocked p c ≡ false
LeastBlocked p (some d) =
    (is_blocked p d ≡ true) × ((c : Item) → is_blocked p c ≡ true → level p d ≤ level p c)
    × ((c : Item) → is_blocked p c ≡ true → position_of c < position_of d → level p d < level p c)

pub least_whole : (p : Panel) → length p.links ≡ 128 → LeastBlocked p (least_blocked p)
unfolding least_blocked
least_whole p long = go (least_blocked p) (least_is (is_blocked p) (level p) (items_of p.size))
  where
    listed : (P : Item → Type 0) → All P (items_of p.size) → (c : Item) → is_blocked p c ≡ true → P c
    listed P a c b = all_in P (items_of p.size) c a (item_listed p long c (blocked_force p c b))

    go : (o : Option Item) → Least (is_blocked p) (level p) (items_of p.size) o → LeastBlocked p o
    go none a = λ c. not-eq-not.0 (λ b. clash b (listed (λ c. is_blocked p c ≡ false) a c b))
    go (some d) (b, low, first) = (
      b,
      λ c k. listed (λ c. is_blocked p c ≡ true → level p d ≤ level p c) low c k k,
      λ c k. listed (λ c. is_blocked p c ≡ true → position_of c < position_of d → level p d < level p c) (first (items_rise p.size)) c k k,
    )

pub least_blocked_lem : (p : Panel) → Legal p → LeastBlocked p (least_blocked p)
least_blocked_lem p h = least_whole p h.links_length

-- where nothing is blocked nothing is found
pub none_least : (p : Panel) (o : Option Item) → LeastBlocked p o → ((c : Item) → is_blocked p c ≡ false) → o ≡ none
none_least p none a k = refl
none_least p (some d) a k = absurd (clash a.0 (k d))
