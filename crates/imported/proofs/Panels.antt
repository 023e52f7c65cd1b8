-- The add of flow i takes the panel of flows with i links to that with one more, and moves field 2i + 1, which nothing reads. Both fields of the
-- flow are set by their stays, whose strengths are their levels, so the new link is blocked, its strongest output is 2i + 1 and the path ends there.
use Prim.Native.Nat.{ℕ, zero, suc, ◌+◌, ◌*◌, ◌/◌, ◌≤◌, ◌<◌}
use mathlib.Core.Path.{◌≡◌, refl, sym, ap, ap₂, ◌∙◌}
use mathlib.Core.Bool.{true, false, not}
use mathlib.Core.List.{[], ◌∷◌}
use mathlib.Core.Logic.{◌≢◌}
use native.Mathlib.Decide.{ℕ_discrete}
use native.Mathlib.Omega.{arith}
use borrow.Author.Tests.{lt-ltb, le-ltb, lt-leb, eq-eqb, ne_eqb, eqb-true}
use lib.Dec.{eqb}
use lib.Seq.{set-set}
use Rattle.fieldset.specs.Tables.{at}
use Rattle.fieldset.specs.Fields.{member, only, size}
use Rattle.fieldset.proofs.Numbers.{ltb_suc}
use Rattle.fieldset.proofs.Fields.{member_only, only_lt, without_only}
use Rattle.fieldset.proofs.Tables.{set_table}
use Rattle.strength.specs.Strength.{strongest, path}
use Rattle.strength.proofs.Maxima.{greatest_ge}
use Rattle.strength.proofs.Depth.{strength_alone}
use Rattle.strength.proofs.Paths.{strongest_found, path_stop}
use Rattle.downstream.specs.Meaning.{Closed}
use Rattle.downstream.proofs.Spreading.{spread_closed_set}
use Rattle.panel.specs.declared.Link.{Link}
use Rattle.panel.specs.declared.Panel.{Panel}
use Rattle.panel.specs.Items.{Item, link, stay, no_link, link_at, outputs_of, setter_of, is_in_force}
use Rattle.panel.specs.Panels.{waiting_link, with_link}
use Rattle.panel.specs.Solution.{level, setter_level, setter_others, setter_reads, strength_of, is_blocked, path_for, reversed, is_looped}
use Rattle.panel.specs.Moved.{turned, redrawn, moved}
use Rattle.panel.specs.Steps.{accepted, reverse_step, enter_step, add_step}
use Rattle.panel.specs.Commands.{adding, performed, is_output, any_of, is_rising, are_field_bytes, add_checks, Passes}
use Rattle.panel.proofs.Reversed.{setter_stay, link_here}
use Rattle.panel.proofs.Checks.{checked_step}
use Rattle.panel.proofs.Reversal.{blocked_by}
use Rattle.panel.proofs.Moved.{turned_is}
use Rattle.importing.specs.Imports.{per_minute, per_second}
use Rattle.imported.specs.Imported.{both_of, flow_link, flow_setter, flow_panel}
use Rattle.imported.proofs.Flows.{link_of, member_both, size_only, byte_field, byte_output, byte_frame, flow_bytes, fields_both, setter_before, setter_new, setter_kept, flow_size, setter_at, place_at, link_at_lem, links_length, reads_flow, no_loop}

-- where the strongest output has its setter's level as its strength, it is the whole path
path_own : (p : Panel) (c : Item) (v : ℕ) → 0 < p.size → strongest (strength_of p) (outputs_of p.links c) ≡ v → setter_level p v ≡ strength_of p v
    → path_for p c ≡ v ∷ []
unfolding path_for
path_own p c v pos e own = rw e (go p.size pos)
  where
    go : (n : ℕ) → 0 < n → path (setter_level p) (setter_others p) (strength_of p) (strength_of p v) n v ≡ v ∷ []
    go zero h = absurd (omega arith)
    go (suc n) h = path_stop (setter_level p) (setter_others p) (strength_of p) (strength_of p v) n v own

-- a blocked link enters by the reversal of its path
enter_reversed : (p : Panel) (id : ℕ) (l : Link) (r : Panel) → is_blocked (with_link p id l) (link id) ≡ true
    → reversed (with_link p id l) (link id) (path_for (with_link p id l) (link id)) ≡ r → is_looped r ≡ false → enter_step p p id l ≡ accepted p r
unfolding enter_step reverse_step
enter_reversed p id l r blocked is loopless = rw (blocked, enter_step, is, loopless, reverse_step) (ap (accepted p) is)

module _ (k i : ℕ) (few : k ≤ 32) (l : i < k) where
  -- the field per second, the new link, and the panel with it, where it waits
  abbrev v : ℕ
  v = per_second i

  abbrev new : Link
  new = waiting_link 0 (both_of i) (both_of i)

  abbrev q : Panel
  q = with_link (flow_panel k i) i new

  half : v / 2 ≡ i
  half = omega arith

  new_here : link_at q.links i ≡ new
  new_here = link_here (flow_panel k i).links i new (omega (arith, links_length k i))

  new_outputs : outputs_of q.links (link i) ≡ both_of i
  new_outputs = ap (λ (x : Link). x.outputs) new_here

  -- ---- the path

  own_setter : (f : ℕ) → f / 2 ≡ i → setter_of q.setter f ≡ stay f
  own_setter f h = setter_stay q.setter f (omega (arith, setter_at k i f (omega arith), setter_before i f (omega arith)))

  own_level : (f : ℕ) → f / 2 ≡ i → setter_level q f ≡ 16 + f
  own_level f h = rw (own_setter f h, place_at k i f (omega arith))

  own_strength : (f : ℕ) → f / 2 ≡ i → strength_of q f ≡ 16 + f
  unfolding strength_of
  own_strength f h =
      strength_alone (setter_level q) (setter_others q) q.size f (omega (arith, flow_size k i)) (rw (own_setter f h) (without_only f)) ∙ own_level f h

  in_both : member (both_of i) v ≡ true
  in_both = member_both i v (omega arith) ∙ eq-eqb (v / 2) i half

  new_blocked : is_blocked q (link i) ≡ true
  unfolding is_in_force
  new_blocked =
      let low : level q (link i) ≡ 0 = ap (λ (x : Link). x.level) new_here in
      blocked_by q (link i)
      (record {
        waits_now = rw new_here refl;
        field = v;
        small = omega arith;
        output = ap (λ (m : ℕ). member m v) new_outputs ∙ in_both;
        stronger = omega (arith, own_strength v half);
      })

  new_strongest : strongest (strength_of q) (both_of i) ≡ v
  new_strongest =
      let w = strongest (strength_of q) (both_of i) in
      let t = strongest_found (strength_of q) (both_of i) v (omega arith) in_both in
      let h : w / 2 ≡ i = eqb-true (w / 2) i (sym (member_both i w t.field) ∙ t.is_in) in
      let top = greatest_ge (member (both_of i)) (strength_of q) 64 v (omega arith) in_both in
      omega (arith, own_strength v half, own_strength w h, t.strong)

  new_path : path_for q (link i) ≡ v ∷ []
  new_path =
      path_own q (link i) v (omega (arith, flow_size k i)) (ap (strongest (strength_of q)) new_outputs ∙ new_strongest)
      (own_level v half ∙ sym (own_strength v half))

  -- ---- the reversal

  new_reversed : reversed q (link i) (v ∷ []) ≡ flow_panel k (suc i)
  unfolding reversed flow_panel
  new_reversed =
      let here : flow_link i ≡ link_of (suc i) i = rw (lt-ltb i (suc i) (omega arith)) in
      let links = set_table no_link (link_of i) (link_of (suc i)) 128 i (flow_link i) (omega arith) here (λ j d. rw (ltb_suc j i d)) in
      let setters = set_table 0 (flow_setter i) (flow_setter (suc i)) 64 v i (omega arith) (sym (setter_new i)) (setter_kept i) in
      rw (own_setter v half, new_here, set-set, links, setters)

  -- ---- the moved count

  -- one field gets another setter
  new_turned : only v ≡ turned (flow_panel k i) (flow_panel k (suc i))
  new_turned =
      turned_is (flow_panel k i) (flow_panel k (suc i)) (only v) (omega (arith, flow_size k (suc i))) (only_lt v)
      (λ f h. member_only v f h ∙ go f h (ℕ_discrete f v))
      (λ f past h. kept f h (λ e. omega (arith, flow_size k (suc i))))
    where
      kept : (f : ℕ) → f < 64 → f ≢ v → at (flow_panel k i).setter f ≡ at (flow_panel k (suc i)).setter f
      kept f h e = setter_at k i f h ∙ setter_kept i f e ∙ sym (setter_at k (suc i) f h)

      go : (f : ℕ) → f < 64 → Dec (f ≡ v) → eqb f v ≡ not (eqb (at (flow_panel k i).setter f) (at (flow_panel k (suc i)).setter f))
      go f h (yes e) =
          let was : at (flow_panel k i).setter v ≡ 128 = setter_at k i v (omega arith) ∙ setter_before i v (omega arith) in
          let now : at (flow_panel k (suc i)).setter v ≡ i = setter_at k (suc i) v (omega arith) ∙ setter_new i in
          rw (e, was, now, eq-eqb v v refl, ne_eqb 128 i (λ d. omega arith))
      go f h (no e) = ne_eqb f v e ∙ sym (ap not (eq-eqb _ _ (kept f h e)))

  -- nothing reads it
  new_unread : Closed (setter_reads (flow_panel k (suc i))) (flow_panel k (suc i)).size (only v)
  new_unread = record {
    joins = λ f g h l r e.
        let here = eqb-true f v (sym (member_only v f h) ∙ e) in
        absurd (omega (arith, (reads_flow k (suc i) g f (omega (arith, flow_size k (suc i))) h r).0));
  }

  new_moved : moved (flow_panel k i) (flow_panel k (suc i)) ≡ 1
  unfolding moved redrawn
  new_moved = rw (← new_turned) (ap size (spread_closed_set _ _ (only v) (only_lt v) new_unread) ∙ size_only v (omega arith))

  -- ---- the add

  add_passes : Passes (add_checks (flow_panel k i) i 0 (flow_bytes i))
  unfolding any_of is_rising are_field_bytes
  add_passes =
      let m = per_minute i in
      let small : m < 64 = omega arith in
      let inside : v < 64 = omega arith in (
        rw (flow_size k i, lt-ltb 0 (2 * k) (omega arith)),
        (
          simp (le-ltb 127 i (omega arith), byte_frame, byte_field, byte_output, lt-ltb m v (omega arith)),
          (
            simp (flow_size k i, byte_field, lt-leb (2 * k) m (omega arith), lt-leb (2 * k) v (omega arith)),
            (rw (link_at_lem k i i (omega arith), le-ltb i i (omega arith)), tt),
          ),
        ),
      )

  pub flow_added : performed (flow_panel k i) (adding i 0 (flow_bytes i)) ≡ record { panel = flow_panel k (suc i); reply = 0x00 ∷ 1 ∷ [] }
  flow_added =
      let covered = fields_both (λ b. true) i (omega arith) refl refl in
      let outputs = fields_both is_output i (omega arith) (byte_output (per_minute i) (omega arith)) (byte_output v (omega arith)) in
      checked_step (flow_panel k i) _ _ add_passes
      ∙ ap₂ (λ (c : ℕ) (o : ℕ). add_step (flow_panel k i) i 0 c o) covered outputs
      ∙ enter_reversed (flow_panel k i) i new (flow_panel k (suc i)) new_blocked (ap (reversed q (link i)) new_path ∙ new_reversed)
      (no_loop k (suc i) few)
      ∙ ap (λ (m : ℕ). record { panel = flow_panel k (suc i); reply = 0x00 ∷ m ∷ [] }) new_moved
