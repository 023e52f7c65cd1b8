-- What each way through the test says: of a link, of the links so far, of the plan over the tables, and of the scan.
use Prim.Native.Nat.{ℕ, ◌<◌}
use mathlib.Core.Path.{◌≡◌, refl, sym, ap, fun_ext, ◌∙◌}
use mathlib.Core.Bool.{Bool, true, false, not, ◌&&◌, ◌||◌, and-false, or-true, or-false}
use mathlib.Core.List.{List}
use mathlib.Core.Logic.{◌≢◌}
use native.Mathlib.Decide.{dec_lt}
use native.Mathlib.Omega.{arith}
use lib.Dec.{eqb}
use lib.ListN.{length}
use borrow.Author.Tests.{eq-eqb, ne_eqb}
use Rattle.fieldset.specs.Tables.{at}
use Rattle.fieldset.specs.Fields.{member}
use Rattle.fieldset.proofs.Numbers.{clash, any_here, any_none}
use Rattle.fieldset.proofs.Fields.{member_empty, without_cases}
use Rattle.fieldset.proofs.Maps.{table_of}
use Rattle.ordering.specs.Order.{order, has_loop}
use Rattle.ordering.specs.Walks.{Among}
use Rattle.ordering.proofs.Plan.{has_loop_cong}
use Rattle.strength.specs.Strength.{strength}
use Rattle.panel.specs.declared.Standing.TheVariants.{Waiting}
use Rattle.panel.specs.declared.Link.{Link}
use Rattle.panel.specs.declared.Panel.{Panel}
use Rattle.panel.specs.Items.{Item, link_at, is_in_force, is_waiting, items_of}
use Rattle.panel.specs.Solution.{level, setter_reads, least, least_blocked, is_looped}
use Rattle.panel.specs.Legal.{Legal}
use Rattle.panel.proofs.Reversed.{setter_link, setter_stay}
use Rattle.panel.proofs.InForce.{waiting_force, unused_off}
use Rattle.tables.specs.Tables.{Tabled, Places}
use Rattle.tables.proofs.Agreement.{panel_table, table_strengths}
use Rattle.std.specs.Prelude.{Option as Answer, Some, None, is_some as found_is_some}
use Rattle.scanning.specs.declared.Blocked.{Blocked}
use Rattle.scanning.specs.declared.Blocked.TheVariants.{Link as ALink, Stay as AStay}
use Rattle.scanning.specs.Scan.{least_blocked_by, found_of, Names}
use Rattle.scanning.proofs.Over.{strengths_block}
use Rattle.sheet.specs.declared.Sheet.{Sheet}
use Rattle.images.specs.Forms.{is_formed}
use Rattle.images.specs.Reading.{is_some, is_short, is_unfit}
use Rattle.images.proofs.Facts.{Facts, formed_facts}
use Rattle.images.proofs.Legality.{formed_legal}

-- ---- one link

abbrev pub lacking : Link → Bool
lacking l = eqb l.level 0 && (is_in_force l && is_waiting l.standing)

module _ (l : Link) where
  pub waiting_lacks : l.standing ≡ Waiting → l.used ≡ true → eqb l.level 0 ≡ lacking l
  waiting_lacks s u = rw (waiting_force l u s, s) (sym (both (eqb l.level 0)))
    where
      both : (b : Bool) → (b && true) ≡ b
      both true = refl
      both false = refl

  pub unused_lacks : l.used ≡ false → false ≡ lacking l
  unused_lacks u = rw (unused_off l u) (sym (and-false (eqb l.level 0)))

-- ---- all links

abbrev pub lacking_at : List Link → ℕ → Bool
lacking_at links i = lacking (link_at links i)

pub short_found : (p : Panel) (i : ℕ) → i < 128 → lacking_at p.links i ≡ true → true ≡ is_short p
unfolding is_short
short_found p i l e = sym (any_here (lacking_at p.links) 128 i l e)

pub short_none : (p : Panel) → ((i : ℕ) → i < 128 → lacking_at p.links i ≡ false) → false ≡ is_short p
unfolding is_short
short_none p h = sym (any_none (lacking_at p.links) 128 h)

-- ---- a well-formed sheet's tables

module _ (s : Sheet) (e : is_formed s ≡ true) where
  abbrev F : Facts s
  F = formed_facts s e

  pub formed_places : Places s.panel.place
  formed_places f l = go (dec_lt f s.panel.size)
    where
      go : Dec (f < s.panel.size) → at s.panel.place f < 64
      go (yes h) = omega (arith, F.place_small f h, F.few)
      go (no h) = omega (arith, F.place_past f (omega arith) l)

  module _ (levels others reads : List ℕ) (t : Tabled s.panel levels others reads) where
    low : (f : ℕ) → f < s.panel.size → f < 64
    low f h = omega (arith, F.few)

    reads_at : (f : ℕ) → f < s.panel.size → at reads f ≡ setter_reads s.panel f
    reads_at f h = (t.setting f (low f h)).reads_are

    pub formed_among : Among reads s.panel.size
    formed_among = record { few = F.few; inside = λ g f h l m. go g f h l (dec_lt (at s.panel.setter g) 128) (rw (reads_at g h) at m) }
      where
        go : (g f : ℕ) → g < s.panel.size → f < 64 → Dec (at s.panel.setter g < 128) → member (setter_reads s.panel g) f ≡ true → f < s.panel.size
        go g f h l (yes k) m =
            let i = at s.panel.setter g in
            let covers : member (link_at s.panel.links i).covered f ≡ true =
            (without_cases (link_at s.panel.links i).covered g f l (rw (setter_link s.panel.setter g k) at m)).0 in
            (F.formed i k (F.setter_sets g (low g h) k).used).inside f l covers
        go g f h l (no k) m = absurd (clash (rw (setter_stay s.panel.setter g (omega arith)) at m) (member_empty f))

    looped_same : has_loop (at reads) s.panel.size ≡ is_looped s.panel
    unfolding is_looped
    looped_same = has_loop_cong (at reads) (setter_reads s.panel) s.panel.size (λ f i l k. ap (λ (m : ℕ). member m i) (reads_at f l))

    pub looped : (k : ℕ) → k ≡ length (order (at reads) s.panel.size) → k ≢ s.panel.size → is_looped s.panel ≡ true
    unfolding has_loop
    looped k e d = sym looped_same ∙ ap not (ne_eqb _ s.panel.size (λ q. d (e ∙ q)))

    pub loopless : (k : ℕ) → k ≡ length (order (at reads) s.panel.size) → k ≡ s.panel.size → is_looped s.panel ≡ false
    unfolding has_loop
    loopless k e d = sym looped_same ∙ ap not (eq-eqb _ s.panel.size (sym e ∙ d))

  pub fit_legal : false ≡ is_short s.panel → is_looped s.panel ≡ false → Legal s.panel
  fit_legal short loops = formed_legal s e (sym short) loops

-- ---- the scan

module _ (p : Panel) (h : Legal p) (levels others reads : List ℕ) (t : Tabled p levels others reads) where
  module _ (table before : List ℕ) (is : table ≡ table_of (strength (at levels) (at others) p.size) p.size before) (found : Answer Blocked) (names : Names p.links (least_blocked_by table p) found) where
    found_is : least_blocked p ≡ found_of found
    unfolding least_blocked least_blocked_by
    found_is =
        ap (λ (b : Item → Bool). least b (level p) (items_of p.size))
        (fun_ext (λ c. sym (strengths_block p table h (table_strengths p table before (is ∙ panel_table p h levels others reads t before)) c)))
        ∙ names.0

    pub found_some : found_is_some found ≡ is_some (least_blocked p)
    found_some = go found ∙ sym (ap is_some found_is)
      where
        go : (x : Answer Blocked) → found_is_some x ≡ is_some (found_of x)
        go None = refl
        go (Some (ALink i l)) = refl
        go (Some (AStay f)) = refl

-- ---- all three

module _ (p : Panel) where
  pub unfit_by_short : true ≡ is_short p → true ≡ is_unfit p
  unfolding is_unfit
  unfit_by_short e = sym (rw (← e) (ap (λ (b : Bool). is_looped p || b) (or-true (is_some (least_blocked p))) ∙ or-true (is_looped p)))

  pub unfit_by_loop : is_looped p ≡ true → true ≡ is_unfit p
  unfolding is_unfit
  unfit_by_loop e = rw e

  pub unfit_by_scan : (r : Bool) → false ≡ is_short p → is_looped p ≡ false → r ≡ is_some (least_blocked p) → r ≡ is_unfit p
  unfolding is_unfit
  unfit_by_scan r short loops e = rw (loops, ← short) (e ∙ sym (or-false (is_some (least_blocked p))))
