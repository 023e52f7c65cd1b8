-- What the scan finds is what document 01 takes. What is found is least among all blocked items (`least_blocked_lem`), and only one item can be: of two
-- links of one level the lower number is taken, two stays never have one level, and no link has a stay's.
use Prim.Native.Nat.{ℕ, ◌≤◌, ◌<◌}
use mathlib.Core.Path.{◌≡◌, refl, ap, subst}
use mathlib.Core.Bool.{true, false}
use mathlib.Core.Logic.{◌↔◌}
use mathlib.Core.Option.{Option, none, some}
use native.Mathlib.Nat.{le_antisymm}
use native.Mathlib.Decide.{dec_lt}
use native.Mathlib.Omega.{arith}
use borrow.Author.Tests.{ltb-true}
use Rattle.fieldset.proofs.Numbers.{clash}
use Rattle.strength.proofs.Depth.{strength_fixed}
use Rattle.ordering.proofs.Plan.{rank_of}
use Rattle.panel.specs.declared.Panel.{Panel}
use Rattle.panel.specs.Items.{Item, link, stay}
use Rattle.panel.specs.Solution.{level, setter_level, setter_others, setter_reads, strength_of, is_blocked, least_blocked}
use Rattle.panel.specs.Legal.{Legal}
use Rattle.panel.proofs.Legal.{force_small}
use Rattle.panel.proofs.Setters.{whole, setter_ranked, setter_falls}
use Rattle.panel.proofs.Reversal.{blocking, blocked_by}
use Rattle.panel.proofs.Least.{blocked_force, LeastBlocked, least_blocked_lem, none_least}
use Rattle.panel.specs.Panels.{dropped}
use Rattle.panel.proofs.Changes.{legal_dropped}
use Rattle.tables.proofs.Agreement.{table_strengths}
use Rattle.scanning.specs.Scan.{found_of}
use Rattle.scanning.proofs.Over.{link_level}
use Rattle.scanning.specs.Exactly.{IsTaken, ScanExactly, ScansExactly, RemovalScans}

module _ (p : Panel) (h : Legal p) where
  -- ---- only one item is taken

  link_number : (i j : ℕ) → IsTaken p (link i) → IsTaken p (link j) → j ≤ i
  link_number i j a b = go (dec_lt i j)
    where
      go : Dec (i < j) → j ≤ i
      go (yes l) = absurd (omega (arith, b.lowest i j refl l a.blocked, a.least (link j) b.blocked))
      go (no l) = omega arith

  link_low : (i : ℕ) → is_blocked p (link i) ≡ true → level p (link i) ≤ 15
  link_low i b = link_level p i h (force_small p.links i h.links_length (blocked_force p (link i) b))

  stay_small : (f : ℕ) → is_blocked p (stay f) ≡ true → f < p.size
  stay_small f b = ltb-true f p.size (blocked_force p (stay f) b)

  only_one : (c d : Item) → IsTaken p c → IsTaken p d → c ≡ d
  only_one c d a b = go c d a b (le_antisymm (a.least d b.blocked) (b.least c a.blocked))
    where
      go : (c d : Item) → IsTaken p c → IsTaken p d → level p c ≡ level p d → c ≡ d
      go (link i) (link j) a b e = ap link (le_antisymm (link_number j i b a) (link_number i j a b))
      go (link i) (stay g) a b e = absurd (omega (arith, link_low i a.blocked))
      go (stay f) (link j) a b e = absurd (omega (arith, link_low j b.blocked))
      go (stay f) (stay g) a b e = ap stay (h.place_once f g (stay_small f a.blocked) (stay_small g b.blocked) (omega arith))

  -- ---- what is found

  taken : (c : Item) → LeastBlocked p (some c) → IsTaken p c
  taken c (b, least, first) = record { blocked = b; least = least; lowest = λ i j e l k. first (link i) k (rw e l) }

  taken_found : (o : Option Item) → LeastBlocked p o → (c : Item) → IsTaken p c → o ≡ some c
  taken_found none a c t = absurd (clash t.blocked (a c))
  taken_found (some d) a c t = ap some (only_one d c (taken d a) t)

pub scans_exactly : ScansExactly
unfolding strength_of
scans_exactly p h =
    let c = stay p.size in
    let ranked = setter_ranked p c (whole p h) h.loopless in
    let found : LeastBlocked p (least_blocked p) = least_blocked_lem p h in
    record {
      strength = λ v l.
          strength_fixed (setter_level p) (setter_others p) (rank_of (setter_reads p) p.size) (setter_falls p c (whole p h) _ ranked) p.size v
          (omega (arith, h.few)) (ranked.small v l);
      blocked = λ c. (
        λ e. let b = blocking p c e in (b.waits_now, (b.field, b.small, b.output, b.stronger)),
        λ (w, (u, l, o, s)). blocked_by p c (record { waits_now = w; field = u; small = l; output = o; stronger = s }),
      );
      finds = λ c. (λ e. taken p h c (subst (LeastBlocked p) e found), taken_found p h (least_blocked p) found c);
      none_blocked = (λ e. subst (LeastBlocked p) e found, none_least p (least_blocked p) found);
    }

-- the scan of a removal: the panel without the link is legal
pub removal_scans : RemovalScans
removal_scans p h id small before table found worked scan =
    let q = dropped p id in
    let exactly : ScanExactly q = scans_exactly q (legal_dropped p id h small) in
    let is : least_blocked q ≡ found_of found = scan.finds.0 in
    record {
      entries = table_strengths q table before scan.strengths;
      count = scan.once;
      finds = λ c. subst (λ (o : Option Item). o ≡ some c ↔ IsTaken q c) is (exactly.finds c);
      none_blocked = subst (λ (o : Option Item). o ≡ none ↔ ((c : Item) → is_blocked q c ≡ false)) is exactly.none_blocked;
      recorded = scan.finds.1;
      exactly = exactly;
    }
