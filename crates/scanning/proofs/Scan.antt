-- The first of least level in a list: of two lists joined, and of a scan from the front that keeps what it found and its level. Of two lists the
-- first one's find stays unless the second one's has less level; the scan joins one item at a time.
use Prim.Native.Nat.{ℕ, ◌+◌, ◌≤◌, ◌<◌}
use mathlib.Core.Path.{◌≡◌, refl, ◌∙◌}
use mathlib.Core.Bool.{Bool, true, false, cond}
use mathlib.Core.List.{List, [], ◌∷◌, ◌++◌, map, map-append, append_assoc, append-nil}
use mathlib.Core.Option.{Option, none, some}
use native.Mathlib.Numerals.{add-one}
use native.Mathlib.Omega.{arith}
use borrow.Author.Tests.{le-leb, lt-leb, leb-true, leb-false}
use lib.Dec.{leb}
use Rattle.fieldset.specs.Tables.{tabulate}
use Rattle.std.specs.Prelude.{Option as Answer, None}
use Rattle.panel.specs.declared.Panel.{Panel}
use Rattle.panel.specs.Items.{Item, link, stay, items_of}
use Rattle.panel.specs.Solution.{level, lesser, least}
use Rattle.scanning.specs.declared.Blocked.{Blocked}
use Rattle.scanning.specs.Scan.{is_blocked_by, least_blocked_by, found_of, Recorded, Names}

-- the level of what may be; 255 where there is none
abbrev pub level_or : (Item → ℕ) → Option Item → ℕ
level_or lev none = 255
level_or lev (some c) = lev c

module _ (q : Item → Bool) (lev : Item → ℕ) where
  -- of two that may be, the first among equals
  abbrev pub joined : Option Item → Option Item → Option Item
  joined none o = o
  joined (some c) o = lesser lev c o

  -- the choice is associative
  lesser_joined : (c : Item) (a b : Option Item) → lesser lev c (joined a b) ≡ joined (lesser lev c a) b
  lesser_joined c none b = refl
  lesser_joined c (some d) none = go (leb (lev c) (lev d))
    where
      go : (t : Bool) → cond t (some c) (some d) ≡ joined (cond t (some c) (some d)) none
      go true = refl
      go false = refl
  lesser_joined c (some d) (some e) = go (leb (lev c) (lev d)) refl (leb (lev d) (lev e)) refl
    where
      go : (s : Bool) → leb (lev c) (lev d) ≡ s → (t : Bool) → leb (lev d) (lev e) ≡ t
          → lesser lev c (cond t (some d) (some e)) ≡ joined (cond s (some c) (some d)) (some e)
      go true x true y = rw (x, le-leb (lev c) (lev e) (omega (arith, leb-true, leb-true (lev c) (lev d) x, leb-true (lev d) (lev e) y)))
      go true x false y = refl
      go false x true y = rw (x, y)
      go false x false y = rw (y, lt-leb (lev c) (lev e) (omega (arith, leb-false (lev c) (lev d) x, leb-false (lev d) (lev e) y)))

  -- the least of two lists joined
  pub least_append : (xs ys : List Item) → least q lev (xs ++ ys) ≡ joined (least q lev xs) (least q lev ys)
  unfolding least
  least_append [] ys = refl
  least_append (c ∷ xs) ys = rw (least_append xs ys) (go (q c))
    where
      go : (b : Bool) → cond b (lesser lev c (joined (least q lev xs) (least q lev ys))) (joined (least q lev xs) (least q lev ys))
          ≡ joined (cond b (lesser lev c (least q lev xs)) (least q lev xs)) (least q lev ys)
      go true = lesser_joined c (least q lev xs) (least q lev ys)
      go false = refl

-- ---- the scan

-- a list is looked over: what is found is the first of least level that the table blocks, and low is its level
pub record Looked (table : List ℕ) (p : Panel) (xs : List Item) (found : Answer Blocked) (low : ℕ) : Type 0 where
  pub result : least (is_blocked_by table p) (level p) xs ≡ found_of found
  pub low_is : low ≡ level_or (level p) (found_of found)
  pub recorded : Recorded p.links found

-- the next is c
module _ {table : List ℕ} {p : Panel} {xs ys : List Item} {found : Answer Blocked} {low : ℕ} (s : Looked table p xs found low) (c : Item) (e : ys ≡ xs ++ c ∷ []) where
  behind : least (is_blocked_by table p) (level p) ys ≡ joined (is_blocked_by table p) (level p) (found_of found) (cond (is_blocked_by table p c) (some c) none)
  unfolding least
  behind = rw (e, least_append (is_blocked_by table p) (level p) xs (c ∷ []), s.result)

  module _ {found' : Answer Blocked} {low' : ℕ} where
    -- it is blocked and has a lesser level
    pub scan_takes : found_of found' ≡ some c → Recorded p.links found' → low' ≡ level p c → is_blocked_by table p c ≡ true → level p c < low
        → Looked table p ys found' low'
    scan_takes is r el t h =
        record { result = behind ∙ rw (t, is) (go (found_of found) s.low_is); low_is = el ∙ rw is refl; recorded = r }
      where
        go : (o : Option Item) → low ≡ level_or (level p) o → joined (is_blocked_by table p) (level p) o (some c) ≡ some c
        go (some d) k = rw (lt-leb (level p d) (level p c) (omega arith))
        go none k = refl

    -- it is not blocked
    pub scan_leaves : found' ≡ found → low' ≡ low → is_blocked_by table p c ≡ false → Looked table p ys found' low'
    scan_leaves ef el t = rw (ef, el) (record { result = behind ∙ rw t (go (found_of found)); low_is = s.low_is; recorded = s.recorded })
      where
        go : (o : Option Item) → joined (is_blocked_by table p) (level p) o none ≡ o
        go (some d) = refl
        go none = refl

    -- it has no lesser level
    pub scan_keeps : found' ≡ found → low' ≡ low → level p c < 255 → low ≤ level p c → Looked table p ys found' low'
    scan_keeps ef el k h = rw (ef, el) (record { result = behind ∙ go (found_of found) s.low_is (is_blocked_by table p c); low_is = s.low_is; recorded = s.recorded })
      where
        go : (o : Option Item) → low ≡ level_or (level p) o → (t : Bool) → joined (is_blocked_by table p) (level p) o (cond t (some c) none) ≡ o
        go (some d) m true = rw (le-leb (level p d) (level p c) (omega arith))
        go (some d) m false = refl
        go none m true = absurd (omega arith)
        go none m false = refl

-- ---- the items in their order, links before stays

abbrev pub first_links : ℕ → List Item
first_links i = map link (tabulate (λ i. i) i)

abbrev pub first_stays : ℕ → List Item
first_stays f = first_links 128 ++ map stay (tabulate (λ f. f) f)

pub next_link : (i : ℕ) → first_links (i + 1) ≡ first_links i ++ link i ∷ []
unfolding tabulate
next_link i = rw (add-one i, map-append link (tabulate (λ i. i) i) (i ∷ []))

pub next_stay : (f : ℕ) → first_stays (f + 1) ≡ first_stays f ++ stay f ∷ []
unfolding tabulate
next_stay f = rw (add-one f, map-append stay (tabulate (λ f. f) f) (f ∷ []), append_assoc (first_links 128) (map stay (tabulate (λ f. f) f)) (stay f ∷ []))

-- nothing is scanned
pub scan_none : (table : List ℕ) (p : Panel) → Looked table p (first_links 0) None 255
unfolding least tabulate
scan_none table p = record { result = refl; low_is = refl; recorded = tt }

-- the links are scanned, and no stay
pub stays_start : {table : List ℕ} {p : Panel} {found : Answer Blocked} {low i : ℕ} → i ≡ 128 → Looked table p (first_links i) found low
    → Looked table p (first_stays 0) found low
unfolding tabulate
stays_start {table} {p} {found} {low} e s = rw (append-nil (first_links 128)) (rw e at s)

-- all are scanned
pub scan_done : {table : List ℕ} {p : Panel} {found : Answer Blocked} {low f : ℕ} → f ≡ p.size → Looked table p (first_stays f) found low
    → Names p.links (least_blocked_by table p) found
unfolding least_blocked_by items_of
scan_done e s = (rw e at s.result, s.recorded)
