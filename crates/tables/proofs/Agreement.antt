-- The tables of a panel's setters say what the panel's own functions say: strengths, the greatest strength of a set, the path. Strength and path go
-- by the level and the other outputs of each field's setter; on these the tables and the panel agree for the panel's fields, and they lead to no other
-- field (`strength_same`).
use mathlib.Core.Path.{◌≡◌, refl, sym, ap, ap₂, ◌∙◌}
use mathlib.Core.Logic.{◌≢◌}
use mathlib.Core.Bool.{Bool, true, false, ◌&&◌}
use mathlib.Core.List.{List, ◌∷◌, ◌++◌}
use Prim.Native.Nat.{ℕ, zero, suc, ◌<◌, max}
use native.Mathlib.Nat.{lt_of_lt_of_le}
use native.Mathlib.Omega.{arith}
use borrow.Author.Tests.{eqb-false, lt-ltb, ltb-true}
use lib.Dec.{eqb, ltb}
use lib.ListN.{length, drop}
use Rattle.fieldset.specs.Numbers.{any}
use Rattle.fieldset.specs.Tables.{at}
use Rattle.fieldset.specs.Fields.{member, below}
use Rattle.fieldset.proofs.Numbers.{any_here, any_found}
use Rattle.fieldset.proofs.Tables.{tabulate_cong}
use Rattle.fieldset.proofs.Fields.{member_below}
use Rattle.fieldset.proofs.Tests.{and_left, and_right, and_both}
use Rattle.strength.specs.Strength.{greatest, strength, lowest_at, path}
use Rattle.strength.specs.Filling.{Acyclic, Strengths}
use Rattle.strength.proofs.Maxima.{greatest_cong, greatest_ge, greatest_found}
use Rattle.strength.proofs.Depth.{strength_fixed, strength_level}
use Rattle.strength.proofs.Paths.{Tie, lowest_at_found, lowest_at_cong}
use Rattle.ordering.specs.Order.{has_loop}
use Rattle.ordering.specs.Walks.{Among}
use Rattle.ordering.proofs.Sets.{test_ext}
use Rattle.ordering.proofs.Plan.{rank_of, has_loop_cong}
use Rattle.panel.specs.declared.Panel.{Panel}
use Rattle.panel.specs.Items.{Item, stay}
use Rattle.panel.specs.Solution.{setter_level, setter_others, setter_reads, strength_of, is_looped}
use Rattle.panel.specs.Legal.{Legal}
use Rattle.panel.proofs.Legal.{Carrying}
use Rattle.panel.proofs.Setters.{whole, others_inside, setter_reads_inside, setter_ranked, setter_falls}
use Rattle.tables.specs.Tables.{Tabled, StrengthsOf}
use Rattle.fieldset.proofs.Maps.{table_of, at_table, length_table}

-- ---- functions that agree on the fields below n, whose other outputs are below n too

module _ (n : ℕ) (level level' others others' : ℕ → ℕ)
    (hl : (v : ℕ) → v < n → level v ≡ level' v) (ho : (v : ℕ) → v < n → others v ≡ others' v)
    (inside : (v u : ℕ) → v < n → u < 64 → member (others v) u ≡ true → u < n) where
  strength_same : (k v : ℕ) → v < n → strength level others k v ≡ strength level' others' k v
  unfolding strength
  strength_same zero v l = refl
  strength_same (suc k) v l =
      ap₂ max (hl v l)
      (greatest_cong (member (others v)) (member (others' v)) (strength level others k) (strength level' others' k) 64
      (λ u h. ap (λ (m : ℕ). member m u) (ho v l)) (λ u h e. strength_same k u (inside v u l h e)))

  -- a field at the strength s whose setter has another level has another output at the strength s
  pub path_same : (str str' : ℕ → ℕ) → ((v : ℕ) → v < n → str v ≡ str' v) → (s : ℕ)
      → ((v : ℕ) → v < n → str v ≡ s → level v ≢ s → (u : ℕ) × Tie str s (others v) u)
      → (k v : ℕ) → v < n → str v ≡ s → path level others str s k v ≡ path level' others' str' s k v
  unfolding path
  path_same str str' hs s tied zero v l e = refl
  path_same str str' hs s tied (suc k) v l e = go (eqb (level v) s) refl (path_same str str' hs s tied k)
    where
      go : (b : Bool) → eqb (level v) s ≡ b → ((w : ℕ) → w < n → str w ≡ s → path level others str s k w ≡ path level' others' str' s k w)
          → path level others str s (suc k) v ≡ path level' others' str' s (suc k) v
      go true t ih = rw (t, ← hl v l, t) refl
      go false t ih =
          let (u, tie) = tied v l e (eqb-false (level v) s t) in
          let next = lowest_at_found str s (others v) u tie in
          let same : lowest_at str s (others v) ≡ lowest_at str' s (others' v) =
          lowest_at_cong str str' s (others v) (λ w h m. hs w (inside v w l h m)) ∙ ap (lowest_at str' s) (ho v l) in
          let t' : eqb (level' v) s ≡ false = rw (hl v l) at t in
          rw (t, t') (ap (λ (x : List ℕ). v ∷ x) (ih (lowest_at str s (others v)) (inside v (lowest_at str s (others v)) l next.field next.is_in) next.strong
          ∙ ap (λ (w : ℕ). path level' others' str' s k w) same))

-- two strengths that agree on a set
pub greatest_same : (m : ℕ) (s t : ℕ → ℕ) → ((u : ℕ) → u < 64 → member m u ≡ true → s u ≡ t u) → greatest (member m) s 64 ≡ greatest (member m) t 64
greatest_same m s t h = greatest_cong (member m) (member m) s t 64 (λ u l. refl) h

-- an output of greater strength than the level: the greatest strength is greater
pub any_over : (m l : ℕ) (s : ℕ → ℕ) → any (λ u. member m u && ltb l (s u)) 64 ≡ ltb l (greatest (member m) s 64)
any_over m l s =
    test_ext (any over 64) (ltb l (greatest (member m) s 64))
    (λ e.
    let r = any_found over 64 e in
    let above : l < s r.0 = ltb-true l (s r.0) (and_right (member m r.0) (ltb l (s r.0)) r.2) in
    lt-ltb l (greatest (member m) s 64)
    (lt_of_lt_of_le above (greatest_ge (member m) s 64 r.0 r.1 (and_left (member m r.0) (ltb l (s r.0)) r.2))))
    (λ e.
    let above : l < greatest (member m) s 64 = ltb-true l (greatest (member m) s 64) e in
    let r = greatest_found (member m) s 64 (omega arith) in
    any_here over 64 r.0 r.1 (and_both (member m r.0) (ltb l (s r.0)) r.2 (lt-ltb l (s r.0) (rw r.3 above))))
  where
    over : ℕ → Bool
    over u = member m u && ltb l (s u)

-- ---- the tables of a panel without a loop

module _ (q : Panel) (c : Item) (h : Carrying c q) (loopless : is_looped q ≡ false) (levels others reads : List ℕ) (t : Tabled q levels others reads) where
  low : (v : ℕ) → v < q.size → v < 64
  low v l = omega (arith, h.few)

  pub level_at : (v : ℕ) → v < q.size → at levels v ≡ setter_level q v
  level_at v l = (t.setting v (low v l)).level_is

  pub others_at : (v : ℕ) → v < q.size → at others v ≡ setter_others q v
  others_at v l = (t.setting v (low v l)).others_are

  pub reads_at : (v : ℕ) → v < q.size → at reads v ≡ setter_reads q v
  reads_at v l = (t.setting v (low v l)).reads_are

  pub table_inside : (v u : ℕ) → v < q.size → u < 64 → member (at others v) u ≡ true → u < q.size
  table_inside v u l k e = others_inside q c h v u l k (rw (others_at v l) at e)

  pub table_acyclic : Acyclic others q.size
  table_acyclic =
      let ranked = setter_ranked q c h loopless in
      record {
        few = h.few;
        inside = table_inside;
        rank = rank_of (setter_reads q) q.size;
        ranked = record {
          falls = λ v u lv lu e. setter_falls q c h (rank_of (setter_reads q) q.size) ranked v u lv lu (rw (t.setting v lv).others_are at e);
          small = ranked.small;
        };
      }

  pub table_among : Among reads q.size
  table_among = record { few = h.few; inside = λ g f l k e. (setter_reads_inside q c h).inside g f l k (rw (reads_at g l) at e) }

  pub table_loopless : has_loop (at reads) q.size ≡ false
  unfolding is_looped
  table_loopless =
      has_loop_cong (at reads) (setter_reads q) q.size (λ f i l k. ap (λ (m : ℕ). member m i) (reads_at f l)) ∙ loopless

  pub table_strength : (v : ℕ) → v < q.size → strength (at levels) (at others) q.size v ≡ strength_of q v
  unfolding strength_of
  table_strength v l = strength_same q.size (at levels) (setter_level q) (at others) (setter_others q) level_at others_at table_inside q.size v l

  -- the setter's level is not the strength: an other output has it
  pub table_tied : (s v : ℕ) → v < q.size → strength (at levels) (at others) q.size v ≡ s → at levels v ≢ s
      → (u : ℕ) × Tie (strength (at levels) (at others) q.size) s (at others v) u
  table_tied s v l e ne =
      let str = strength (at levels) (at others) q.size in
      let fixed = strength_fixed (at levels) (at others) table_acyclic.rank table_acyclic.ranked.falls
      q.size v (omega (arith, h.few)) (table_acyclic.ranked.small v l) in
      let below_s : at levels v < s = omega (arith, strength_level (at levels) (at others) q.size v (omega arith)) in
      let r = greatest_found (member (at others v)) str 64 (omega arith) in
      (r.0, record { field = r.1; is_in = r.2; strong = r.3 ∙ omega arith })

-- ---- the tables of a legal panel, and a table of all strengths

module _ (p : Panel) (h : Legal p) (levels others reads : List ℕ) (t : Tabled p levels others reads) where
  pub panel_acyclic : Acyclic others p.size
  panel_acyclic = table_acyclic p (stay p.size) (whole p h) h.loopless levels others reads t

  pub panel_among : Among reads p.size
  panel_among = table_among p (stay p.size) (whole p h) h.loopless levels others reads t

  pub panel_loopless : has_loop (at reads) p.size ≡ false
  panel_loopless = table_loopless p (stay p.size) (whole p h) h.loopless levels others reads t

  pub panel_reads : (f : ℕ) → f < p.size → at reads f ≡ setter_reads p f
  panel_reads = reads_at p (stay p.size) (whole p h) h.loopless levels others reads t

  -- a table of all strengths by the tables is one of all strengths of the panel
  pub panel_table : (before : List ℕ)
      → table_of (strength (at levels) (at others) p.size) p.size before ≡ table_of (strength_of p) p.size before
  panel_table before =
      ap (λ (x : List ℕ). x ++ drop p.size before)
      (tabulate_cong (strength (at levels) (at others) p.size) (strength_of p) p.size (table_strength p (stay p.size) (whole p h) h.loopless levels others reads t))

  pub all_strengths : (table : List ℕ) → length table ≡ 64 → StrengthsOf p table → Strengths levels others p.size (below p.size) table
  all_strengths table full is = record {
    full = full;
    right = λ u l e. is u (inside u l e) ∙ sym (table_strength p (stay p.size) (whole p h) h.loopless levels others reads t u (inside u l e));
    closed = λ v u lv lu e m. member_below p.size u lu ∙ lt-ltb u p.size (panel_acyclic.inside v u (inside v lv e) lu m);
  }
    where
      inside : (u : ℕ) → u < 64 → member (below p.size) u ≡ true → u < p.size
      inside u l e = ltb-true u p.size (sym (member_below p.size u l) ∙ e)

-- its entries
pub table_strengths : (p : Panel) (table before : List ℕ) → table ≡ table_of (strength_of p) p.size before → StrengthsOf p table
table_strengths p table before is f l = ap (λ (x : List ℕ). at x f) is ∙ at_table (strength_of p) before p.size f l

pub table_full : (p : Panel) (table before : List ℕ) → Legal p → table ≡ table_of (strength_of p) p.size before → length before ≡ 64 → length table ≡ 64
table_full p table before h is full = ap length is ∙ length_table (strength_of p) before p.size (omega (arith, h.few)) ∙ full
