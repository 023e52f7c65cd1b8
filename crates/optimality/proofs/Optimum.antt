-- A sound state is optimal: matchings over the store are matchings of the panel's graph, both ways and with the same levels, since store and panel
-- agree; what the panel holds is one, without a loop, and no matching counts more up to any level (`pairs_most`).
use Prim.Native.Nat.{ℕ, ◌+◌, ◌≤◌, ◌<◌}
use mathlib.Core.Path.{◌≡◌, refl, sym, ap, ◌∙◌}
use mathlib.Core.Bool.{true, false}
use mathlib.Core.List.{List}
use native.Mathlib.Omega.{arith}
use borrow.Author.Tests.{lt-ltb, ltb-true, eq-eqb, eqb-true}
use Rattle.fieldset.proofs.Lists.{all_in, all_map, Whole}
use Rattle.fieldset.specs.Tables.{at}
use Rattle.fieldset.specs.Fields.{member}
use Rattle.fieldset.proofs.Numbers.{clash}
use Rattle.fieldset.proofs.Fields.{member_lt, member_only, member_without_other}
use Rattle.ordering.specs.Walks.{Read as FieldRead, Walk as FieldWalk, one as fieldOne, more as fieldMore}
use Rattle.ordering.proofs.Loops.{walk_loop}
use Rattle.panel.specs.declared.Panel.{Panel}
use Rattle.panel.specs.Items.{Item, link, stay, link_at, is_in_force, in_force}
use Rattle.panel.specs.Solution.{level, setter_reads, plan_of, is_looped, strength_of}
use Rattle.panel.specs.Commands.{planning, performed}
use Rattle.panel.specs.Legal.{Formed}
use Rattle.panel.proofs.Legal.{Carrying, LegalBut, force_formed}
use Rattle.panel.proofs.Setters.{outputs_inside, setter_reads_inside}
use Rattle.optimality.specs.Condition3.{Store, level_in, Pair, IsOutput, MaySet, Matching, count_up_to, held, IsCovered, Reads, Read, Walk, one, more, Loop, Optimal}
use Rattle.optimality.specs.Agreement.{Agrees, Sound}
use Rattle.optimality.proofs.Setters.{Graph}
use Rattle.optimality.proofs.Matchings.{Fits, Matches, count_cong, pairs, pair_setter}
use Rattle.optimality.proofs.Required.{pairs_match, pairs_most}
use Rattle.optimality.proofs.Graphs.{graph_of, setters_of, legal_whole, assigned, none_unblocked}
use Rattle.optimality.proofs.Held.{plan_whole, held_pairs}
use Rattle.optimality.proofs.Agreement.{entry_force}

-- ---- matchings over the store

module _ {b : Store} {p : Panel} {o : Item} (h : Carrying o p) (a : Agrees b p) where
  formed : (i : ℕ) → is_in_force (link_at p.links i) ≡ true → Formed p.size (link_at p.links i)
  formed = force_formed p.size p.links h.filled

  may_fits : (c : Item) (f : ℕ) → MaySet b c f → Fits (graph_of p) (record { item = c; field = f })
  may_fits (link i) f m =
      let (u, k) = entry_force (λ e. IsOutput e f) (λ n. n) (link_at p.links i) (rw (a.links i) at m) in
      let l : f < 64 = member_lt (link_at p.links i).outputs (formed i u).outputs_small f k in
      record { force = u; below = outputs_inside p.size p.links h.filled (link i) f u l k; may = k }
  may_fits (stay g) f m =
      let l : g < p.size = all_in (λ f. f < p.size) b.stays g a.below m.1 in
      let few : p.size ≤ 64 = h.few in
      record { force = lt-ltb g p.size l; below = rw m.0 l; may = rw m.0 (member_only g g (omega arith) ∙ eq-eqb g g refl) }

  fits_may : (c : Item) (f : ℕ) → Fits (graph_of p) (record { item = c; field = f }) → MaySet b c f
  fits_may (link i) f x = rw (a.links i, x.force) x.may
  fits_may (stay g) f x =
      let few : p.size ≤ 64 = h.few in
      let l : f < p.size = x.below in
      (eqb-true f g (sym (member_only g f (omega arith)) ∙ x.may), a.stays g (ltb-true g p.size x.force))

  pub matching_matches : (xs : List Pair) → Matching b xs → Matches (graph_of p) xs
  matching_matches xs m =
      record {
        fits = all_map (λ x. MaySet b x.item x.field) (Fits (graph_of p)) (λ x. may_fits x.item x.field) xs m.may;
        items_once = m.items_once;
        fields_once = m.fields_once;
      }

  pub matches_matching : (xs : List Pair) → Matches (graph_of p) xs → Matching b xs
  matches_matching xs m =
      record {
        may = all_map (Fits (graph_of p)) (λ x. MaySet b x.item x.field) (λ x. fits_may x.item x.field) xs m.fits;
        items_once = m.items_once;
        fields_once = m.fields_once;
      }

  -- the levels in the store are the panel's
  pub level_agrees : (c : Item) → in_force p.size p.links c ≡ true → level_in b c ≡ level p c
  level_agrees (link i) u = rw (a.links i, u)
  level_agrees (stay f) u = ap (λ (k : ℕ). 16 + k) (a.places f (ltb-true f p.size u))

  pub count_agrees : (L : ℕ) (xs : List Pair) → Matches (graph_of p) xs → count_up_to (level_in b) L xs ≡ count_up_to (level p) L xs
  count_agrees L xs m =
      count_cong (level_in b) (level p) L xs
      (all_map (Fits (graph_of p)) (λ x. level_in b x.item ≡ level p x.item) (λ x fits. level_agrees x.item fits.force) xs m.fits)

  -- ---- reads

  read_field : (f g : ℕ) (c : Item) → g < p.size → setters_of p g ≡ c → Reads b c g f → FieldRead (setter_reads p) p.size f g
  read_field f g (link i) l e r =
      let (u, k) = entry_force (λ e. IsCovered e f) (λ n. n) (link_at p.links i) (rw (a.links i) at r.0) in
      let lf : f < 64 = member_lt (link_at p.links i).covered (formed i u).small f k in
      let m : member (setter_reads p g) f ≡ true = rw e (member_without_other (link_at p.links i).covered g f lf r.1 ∙ k) in
      record { from = (setter_reads_inside p o h).inside g f l lf m; to = l; reads_it = m }
  read_field f g (stay k) l e r = absurd r

  module _ (fs : List ℕ) (w : Whole p.size fs) where
    read_of : (f g : ℕ) → Read b (pairs (setters_of p) fs) f g → FieldRead (setter_reads p) p.size f g
    read_of f g r =
        let (k, e) = pair_setter (setters_of p) fs (record { item = r.setter; field = g }) r.holds in
        read_field f g r.setter (all_in (λ f. f < p.size) fs g w.below k) (sym e) r.reads

    walk_of : (f g : ℕ) → Walk b (pairs (setters_of p) fs) f g → FieldWalk (setter_reads p) p.size f g
    walk_of f g (one r) = fieldOne (read_of f g r)
    walk_of f g (more {g = k} v r) = fieldMore (walk_of f k v) (read_of k g r)

    no_loop : is_looped p ≡ false → Loop b (pairs (setters_of p) fs) → ⊥
    unfolding is_looped
    no_loop loopless x =
        clash (walk_loop (setter_reads p) p.size h.few (record { field = x.field; walk = walk_of x.field x.field x.walk })) loopless

-- ---- a sound panel

module _ {b : Store} {p : Panel} (x : Sound b p) where
  abbrev G : Graph
  G = graph_of p

  k : LegalBut (stay p.size) p
  k = legal_whole p x.legal

  whole : Whole p.size (plan_of p)
  whole = plan_whole p x.legal.few x.legal.loopless

  pub sound_optimal : Optimal b (performed p planning).reply
  sound_optimal =
      record {
        most = most;
        matching = rw (held_pairs p x.legal) (matches_matching k.carrying x.agrees (pairs (setters_of p) (plan_of p)) matches);
        loopless = rw (held_pairs p x.legal) (no_loop k.carrying x.agrees (plan_of p) whole x.legal.loopless);
      }
    where
      matches : Matches G (pairs (setters_of p) (plan_of p))
      matches = pairs_match G (setters_of p) (plan_of p) whole (assigned k.carrying)

      most : (L : ℕ) (ys : List Pair) → Matching b ys → count_up_to (level_in b) L ys ≤ count_up_to (level_in b) L (held (performed p planning).reply)
      most L ys m =
          let n = matching_matches k.carrying x.agrees ys m in
          rw (held_pairs p x.legal, count_agrees k.carrying x.agrees L ys n, count_agrees k.carrying x.agrees L (pairs (setters_of p) (plan_of p)) matches)
          (pairs_most G (setters_of p) (plan_of p) whole (strength_of p) (none_unblocked k x.unblocked) L ys n)
