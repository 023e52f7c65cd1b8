-- Deciding on a reversal, for a panel q and a blocked item c: the tables agree with the panel's definitions on its fields, so what is found on them
-- is what these say: whether c is blocked (`is_blocked_lem`), the path for c (`decided_path`), and whether its reversal has a loop, by the read fields
-- of the reversed panel (`decided_looped`). So the answer is that of `reverse_step` (`found_refused`, `found_accepted`).
use mathlib.Core.Path.{◌≡◌, refl, sym, ap, ap₂, ◌∙◌}
use mathlib.Core.Bool.{Bool, true, false}
use mathlib.Core.List.{List, [], ◌∷◌}
use Prim.Native.Nat.{ℕ, zero, suc, ◌<◌}
use native.Mathlib.Omega.{arith}
use borrow.Author.Tests.{eqb-true, lt-ltb}
use lib.Dec.{ltb}
use lib.ListN.{length, take}
use Rattle.fieldset.specs.Tables.{at}
use Rattle.fieldset.specs.Fields.{member, below}
use Rattle.fieldset.proofs.Fields.{member_below, member_only}
use Rattle.strength.specs.Strength.{greatest, strength, lowest_at, strongest, path}
use Rattle.strength.specs.Filling.{Within}
use Rattle.strength.proofs.Paths.{strongest_found, lowest_at_cong}
use Rattle.ordering.specs.Order.{has_loop}
use Rattle.ordering.proofs.Plan.{has_loop_cong}
use Rattle.panel.specs.declared.Link.{Link}
use Rattle.panel.specs.declared.Panel.{Panel}
use Rattle.panel.specs.declared.Refusal.TheVariants.{Loop}
use Rattle.panel.specs.Items.{Item, link, stay, item_of, setter_of, outputs_of, reads_of, in_force, waits}
use Rattle.panel.specs.Answers.{refused}
use Rattle.panel.specs.Solution.{level, setter_level, setter_others, setter_reads, strength_of, is_blocked, path_for, reversed, is_looped}
use Rattle.panel.specs.Steps.{accepted, reverse_step}
use Rattle.panel.proofs.Reversed.{number_of, reversed_setters, alike_reads, reversed_size, reversed_alike}
use Rattle.panel.proofs.Legal.{Carrying, force_small, force_formed}
use Rattle.panel.proofs.Setters.{setter_force, setter_output, outputs_inside}
use Rattle.panel.proofs.Reversal.{route_setters, Start, start_of, start_of_lem, blocking, path_for_lem, route_for}
use Rattle.tables.specs.Tables.{Tabled}
use Rattle.tables.proofs.Agreement.{level_at, others_at, reads_at, table_inside, table_acyclic, table_among, table_loopless, table_strength, table_tied, greatest_same, path_same, any_over}
use Rattle.reversal.specs.Reversals.{reversed_reads, Unresolved, Found}
use Rattle.reversal.proofs.ReadFields.{cover_of, Covers, cover_link, cover_stay, reversed_reads_lem}

-- a waiting item is blocked where the greatest strength of its outputs is greater than its level
blocked_over : (q : Panel) (c : Item) → waits q.size q.links q.setter c ≡ true
    → is_blocked q c ≡ ltb (level q c) (greatest (member (outputs_of q.links c)) (strength_of q) 64)
unfolding is_blocked
blocked_over q c w = rw w (any_over (outputs_of q.links c) (level q c) (strength_of q))

-- the head of a list whose first entries are known
head : (count : ℕ) (xs : List ℕ) (v : ℕ) (vs : List ℕ) → take count xs ≡ v ∷ vs → at xs 0 ≡ v
head zero xs v vs e = let z : ◌≡◌ {A = ℕ} 0 1 = cc in absurd (omega arith)
head (suc k) [] v vs e = let z : ◌≡◌ {A = ℕ} 0 1 = cc in absurd (omega arith)
head (suc k) (x ∷ xs) v vs e = cc

-- a stay's only output is its own field
stay_output : (links : List Link) (c : Item) (f v : ℕ) → c ≡ stay f → v < 64 → member (outputs_of links c) v ≡ true → v ≡ f
stay_output links c f v e l m = eqb-true v f (sym (member_only f v l) ∙ (rw e at m))

-- ---- the decision about a panel

module _ (q : Panel) (c : Item) (h : Carrying c q) (loopless : is_looped q ≡ false) (force : in_force q.size q.links c ≡ true) (levels others reads : List ℕ)
    (t : Tabled q levels others reads) where
  str : ℕ → ℕ
  str = strength (at levels) (at others) q.size

  outs_inside : (u : ℕ) → u < 64 → member (outputs_of q.links c) u ≡ true → u < q.size
  outs_inside u l e = outputs_inside q.size q.links h.filled c u force l e

  outs_same : (u : ℕ) → u < 64 → member (outputs_of q.links c) u ≡ true → str u ≡ strength_of q u
  unfolding str
  outs_same u l e = table_strength q c h loopless levels others reads t u (outs_inside u l e)

  pub greatest_outs : greatest (member (outputs_of q.links c)) (strength (at levels) (at others) q.size) 64 ≡ greatest (member (outputs_of q.links c)) (strength_of q) 64
  unfolding str
  greatest_outs = greatest_same (outputs_of q.links c) str (strength_of q) outs_same

  -- what `resolve` asks of the tables
  pub unresolved : (path : List ℕ) → 0 < outputs_of q.links c → length path ≡ 64 → Within (cover_of q.links c) (below q.size)
      → Unresolved others q.size (outputs_of q.links c) (cover_of q.links c) reads path
  unresolved path some full cover = record {
    acyclic = table_acyclic q c h loopless levels others reads t;
    some_output = some;
    outputs_inside = λ u l e. member_below q.size u l ∙ lt-ltb u q.size (outs_inside u l e);
    among = table_among q c h loopless levels others reads t;
    loopless = table_loopless q c h loopless levels others reads t;
    covered_inside = cover;
    reads_length = t.reads_full;
    path_length = full;
  }

  -- whether c, which waits, is blocked
  pub is_blocked_lem : (s : ℕ) → waits q.size q.links q.setter c ≡ true
      → s ≡ greatest (member (outputs_of q.links c)) (strength (at levels) (at others) q.size) 64 → is_blocked q c ≡ ltb (level q c) s
  is_blocked_lem s w top = blocked_over q c w ∙ ap (ltb (level q c)) (sym (top ∙ greatest_outs))

  module _ (b : is_blocked q c ≡ true) (s count : ℕ) (after : List ℕ) (looped : Bool)
      (top : s ≡ greatest (member (outputs_of q.links c)) (strength (at levels) (at others) q.size) 64)
      (d : Found levels others q.size s (outputs_of q.links c) (cover_of q.links c) reads after count looped) where
    start : Start q c
    start = start_of_lem q c h (blocking q c b)

    -- the path in the buffer is the path for c
    pub decided_path : take count after ≡ path_for q c
    unfolding str path_for strongest
    decided_path =
        let outs = outputs_of q.links c in
        let s' : s ≡ greatest (member outs) (strength_of q) 64 = top ∙ greatest_outs in
        let v : ℕ = strongest (strength_of q) outs in
        let from : lowest_at str s outs ≡ v = lowest_at_cong str (strength_of q) s outs outs_same ∙ ap (λ (x : ℕ). lowest_at (strength_of q) x outs) s' in
        let strong : strength_of q v ≡ s = (strongest_found (strength_of q) outs v (omega (arith, start.small, h.few)) start.output).strong ∙ sym s' in
        d.is_path
        ∙ ap (λ (x : ℕ). path (at levels) (at others) str s q.size x) from
        ∙ path_same q.size (at levels) (setter_level q) (at others) (setter_others q) (level_at q c h loopless levels others reads t)
        (others_at q c h loopless levels others reads t) (table_inside q c h loopless levels others reads t) str (strength_of q)
        (table_strength q c h loopless levels others reads t) s (table_tied q c h loopless levels others reads t s) q.size v start.small
        (table_strength q c h loopless levels others reads t v start.small ∙ strong)
        ∙ ap (λ (x : ℕ). path (setter_level q) (setter_others q) (strength_of q) x q.size v) (sym strong)

    covers : (d : Item) (v : ℕ) → in_force q.size q.links d ≡ true → v < q.size → member (outputs_of q.links d) v ≡ true → Covers q.links d v
    covers (link i) v f l o =
        let formed = force_formed q.size q.links h.filled i f in
        let k : v < 64 = omega (arith, h.few) in
        cover_link q.links i v formed.small k (formed.subset v k o)
    covers (stay g) v f l o = cover_stay q.links g v (omega (arith, h.few)) o

    -- and it is known whether its reversal has a loop
    pub decided_looped : looped ≡ is_looped (reversed q c (path_for q c))
    unfolding is_looped
    decided_looped =
        let route = route_for q c h loopless (blocking q c b) in
        let r = reversed_reads_lem q.size q.links h.few (λ e. in_force q.size q.links e ≡ true) covers
        (setter_of q.setter) c (path_for q c) reads (cover_of q.links c)
        (record { full = t.reads_full; reads = reads_at q c h loopless levels others reads t; ok = setter_force q c h; output = setter_output q c h })
        force refl route.leads route.distinct in
        d.is_looped
        ∙ ap (λ (x : List ℕ). has_loop (at (reversed_reads reads (cover_of q.links c) x)) q.size) decided_path
        ∙ has_loop_cong (at (reversed_reads reads (cover_of q.links c) (path_for q c))) (setter_reads (reversed q c (path_for q c))) q.size
        (λ f i l k. ap (λ (m : ℕ). member m i) (r.reads f l
        ∙ sym (alike_reads (reversed q c (path_for q c)).links q.links (reversed_alike q c (path_for q c)) (reversed_setters (setter_of q.setter) c (path_for q c) f) f)
        ∙ ap (λ (e : ℕ → Item). reads_of (reversed q c (path_for q c)).links (e f) f) (sym (route_setters q c (path_for q c) h route))))
        ∙ ap (has_loop (setter_reads (reversed q c (path_for q c)))) (sym (reversed_size q c (path_for q c)))

    -- the number of c as a setter stands for c at the path's first field
    pub decided_item : item_of (number_of c) (at after 0) ≡ c
    decided_item = go c refl
      where
        first : at after 0 ≡ start_of q c
        first =
            let r = path_for_lem q c h loopless start.small in
            let whole : take count after ≡ start_of q c ∷ r.rest = decided_path ∙ r.starts in
            head count after (start_of q c) r.rest whole

        go : (e : Item) → c ≡ e → item_of (number_of e) (at after 0) ≡ e
        go (link i) e = rw (lt-ltb i 128 (force_small q.links i h.filled.full (rw e at force))) refl
        go (stay f) e =
            ap stay (first ∙ stay_output q.links c f (start_of q c) e (omega (arith, start.small, h.few)) start.output)

    -- the panel that the path in the buffer gives, and the answer, where there is a loop and where there is none
    pub found_panel : reversed q (item_of (number_of c) (at after 0)) (take count after) ≡ reversed q c (path_for q c)
    found_panel = ap₂ (reversed q) decided_item decided_path

    pub found_refused : (p : Panel) → looped ≡ true → reverse_step p q c ≡ refused p Loop
    unfolding reverse_step
    found_refused p e = rw (sym decided_looped ∙ e, reverse_step)

    pub found_accepted : (p : Panel) → looped ≡ false → reverse_step p q c ≡ accepted p (reversed q c (path_for q c))
    unfolding reverse_step
    found_accepted p e = rw (sym decided_looped ∙ e, reverse_step)
