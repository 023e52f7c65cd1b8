-- The step of a verdict gives what its command gives. One law for any verdict (`decides_verdict`): the fields of the path and the field given free
-- are those whose setter changes, and their number is the reply's. It is used for a verdict with nothing to reverse (`decides_free`) and for a path
-- (`decides_path`); `resolved_loop` and `resolved_step` take what `resolve` answers.
use Prim.Native.Nat.{ℕ, ◌^◌, ◌≤◌, ◌<◌}
use mathlib.Core.Path.{◌≡◌, refl, sym, ap, ◌∙◌, subst}
use mathlib.Core.Bool.{Bool, true, false, not, ◌||◌, or-false}
use mathlib.Core.Logic.{◌≢◌, ◌⊎◌}
use mathlib.Core.List.{List, [], ◌∷◌}
use native.Mathlib.Decide.{ℕ_discrete}
use native.Mathlib.Omega.{arith}
use borrow.Author.Tests.{eq-eqb, ne_eqb}
use lib.Dec.{eqb, ltb}
use lib.ListN.{length, take, set}
use lib.Seq.{get_or-set_other}
use Rattle.fieldset.specs.Tables.{at}
use Rattle.fieldset.specs.Fields.{member, only, union, size}
use Rattle.fieldset.proofs.Tests.{or_left}
use Rattle.fieldset.proofs.Numbers.{clash}
use Rattle.fieldset.proofs.Fields.{member_empty, member_only, member_union, member_setOf_lt, empty_of_none, set_of_lt, union_lt}
use Rattle.strength.specs.Strength.{greatest, strength}
use Rattle.panel.specs.declared.Standing.{Standing}
use Rattle.panel.specs.declared.Standing.TheVariants.{Waiting, Holding}
use Rattle.panel.specs.declared.Link.{Link}
use Rattle.panel.specs.declared.Panel.{Panel}
use Rattle.panel.specs.declared.Refusal.TheVariants.{Loop}
use Rattle.std.specs.Prelude.{Ok}
use Rattle.panel.specs.Items.{Item, link, item_of, link_at, outputs_of, is_in_force, in_force, waits}
use Rattle.panel.specs.Answers.{Answer, refused, reply_bytes}
use Rattle.panel.specs.Panels.{freed}
use Rattle.panel.specs.Solution.{level, is_blocked, path_for, reversed, is_looped}
use Rattle.panel.specs.Moved.{turned, moved}
use Rattle.panel.specs.Steps.{accepted, reverse_step}
use Rattle.panel.specs.Commands.{any_of, Command, performed}
use Rattle.panel.specs.Legal.{Legal}
use Rattle.panel.specs.Outcomes.{taken, PathOf, counted, redrawn_by, Decides}
use Rattle.panel.proofs.Reversed.{number_of, reversed_size}
use Rattle.panel.proofs.Legal.{Carrying, holding_not_waiting}
use Rattle.panel.proofs.Reversal.{blocking, start_of_lem, start_of, path_for_lem, Route, route_for, reverse_force}
use Rattle.panel.proofs.Performed.{legal_performed}
use Rattle.panel.proofs.Moved.{reversed_changes, turned_is, redrawn_by_lem, counted_none}
use Rattle.tables.specs.Tables.{Tabled}
use Rattle.reversal.specs.declared.Verdict.{Verdict}
use Rattle.reversal.specs.declared.Verdict.TheVariants.{Free, Looped, Path}
use Rattle.reversal.specs.Reversals.{fields_of, Found, Resolved, held_field, setter_by, count_by, fields_by, step_of}
use Rattle.reversal.proofs.Fields.{fields_none, fields_first}
use Rattle.reversal.proofs.ReadFields.{cover_of}
use Rattle.reversal.proofs.Decision.{is_blocked_lem, decided_path, found_panel, found_refused, found_accepted}

-- a change of the panel p of link k: so many fields, these places, this link in place of it, and what it held given free
module _ (p : Panel) (k n : ℕ) (place : List ℕ) (l : Link) (held : Standing) where
  -- the panel after it
  abbrev pub after : Panel
  after = freed (record { size = n; links = set p.links k l; place = place; setter = p.setter }) held

  pub record Change : Type 0 where
    pub legal : Legal p
    pub size : after.size ≡ p.size
    -- what it gives free is a field that link k holds, and no link k is in force then
    pub field : (v : ℕ) → held ≡ Holding v → v < 64
    pub gone : (v : ℕ) → held ≡ Holding v → (at p.setter v < 128) × (is_in_force (link_at after.links (at p.setter v)) ≡ false)
    pub keeps : (f : ℕ) → f < 64 → at p.setter f ≡ k → (l ≡ link_at p.links k) ⊎ (held ≡ Holding f)

  module _ (ch : Change) (cmd : Command) (path : List ℕ) where
    -- the setters that the change leaves
    same : (s : Standing) → held ≡ s → (f : ℕ) → s ≢ Holding f → at after.setter f ≡ at p.setter f
    same Waiting e f ne = rw e refl
    same (Holding v) e f ne = rw e (get_or-set_other p.setter v f 128 0 (λ d. ne (ap Holding (sym d))))

    none_zero : (a b f : ℕ) → union a b ≡ 0 → f < 64 → (member a f || member b f) ≡ false
    none_zero a b f z lf = sym (member_union a b f lf) ∙ ap (λ (m : ℕ). member m f) z ∙ member_empty f

    -- what a verdict changes, where r is the panel after it, whose path has the fields vs
    module _ (t : Verdict) (c : ℕ) (vs : List ℕ) (r : Panel)
        (taking : reversed after (item_of (setter_by t c) (at path 0)) (take (count_by t) path) ≡ r) (force : (i : ℕ) → is_in_force (link_at r.links i) ≡ is_in_force (link_at after.links i)) (fields : fields_by t ≡ fields_of vs)
        (on : (f : ℕ) → any_of (eqb f) vs ≡ not (eqb (at after.setter f) (at r.setter f))) (accept : performed p cmd ≡ accepted p r)
        (path_of : PathOf path (count_by t)) (moves : fields_by t ≡ 0 → (setter_by t c ≡ 128) × (count_by t ≡ 0)) (size_same : r.size ≡ after.size) where
      legal_after : Legal r
      legal_after = subst (λ (a : Answer). Legal a.panel) accept (legal_performed p cmd ch.legal)

      -- what is given free has another setter then
      set_anew : (v : ℕ) → held ≡ Holding v → at p.setter v ≢ at r.setter v
      set_anew v e x =
          let (small, off) = ch.gone v e in
          clash (legal_after.setter_in_force v (ch.field v e) (omega arith)) (force (at r.setter v) ∙ rw (← x) off)

      changed : (f : ℕ) → f < 64 → member (union (fields_by t) (held_field held)) f ≡ not (eqb (at p.setter f) (at r.setter f))
      unfolding fields_of
      changed f lf =
          member_union (fields_by t) (held_field held) f lf
          ∙ ap (λ (b : Bool). b || member (held_field held) f) (ap (λ (m : ℕ). member m f) fields ∙ member_setOf_lt (λ f. any_of (eqb f) vs) 64 f lf ∙ on f)
          ∙ go held refl
        where
          go : (s : Standing) → held ≡ s → (not (eqb (at after.setter f) (at r.setter f)) || member (held_field s) f) ≡ not (eqb (at p.setter f) (at r.setter f))
          go Waiting e = rw (member_empty f) (or-false (not (eqb (at after.setter f) (at r.setter f))) ∙ ap (λ (x : ℕ). not (eqb x (at r.setter f))) (same Waiting e f (λ q. holding_not_waiting q refl)))
          go (Holding v) e = at_v (ℕ_discrete f v)
            where
              all_true : (b : Bool) → (b || true) ≡ true
              all_true true = refl
              all_true false = refl

              at_v : Dec (f ≡ v) → (not (eqb (at after.setter f) (at r.setter f)) || member (only v) f) ≡ not (eqb (at p.setter f) (at r.setter f))
              at_v (yes q) =
                  rw (member_only v f lf, eq-eqb f v q)
                  (all_true (not (eqb (at after.setter f) (at r.setter f))) ∙ sym (ap not (ne_eqb (at p.setter f) (at r.setter f) (λ x. absurd (set_anew v e (sym (ap (at p.setter) q) ∙ x ∙ ap (at r.setter) q))))))
              at_v (no q) =
                  rw (member_only v f lf, ne_eqb f v q)
                  (or-false (not (eqb (at after.setter f) (at r.setter f))) ∙ ap (λ (x : ℕ). not (eqb x (at r.setter f))) (same (Holding v) e f (λ x. let z : v ≡ f = cc in q (sym z))))

      past : (f : ℕ) → r.size ≤ f → f < 64 → at p.setter f ≡ at r.setter f
      past f a b = ch.legal.setter_past f (omega (arith, size_same, ch.size)) b ∙ sym (legal_after.setter_past f a b)

      still : union (fields_by t) (held_field held) ≡ 0 → (held ≡ Waiting) × (setter_by t c ≡ 128) × (count_by t ≡ 0)
      unfolding fields_of
      still z = let m = moves none in (waiting held refl, m.0, m.1)
        where
          none : fields_by t ≡ 0
          none = fields ∙ empty_of_none 64 (fields_of vs) small (λ f lf. let e = none_zero (fields_by t) (held_field held) f z lf in ap (λ (m : ℕ). member m f) (sym fields) ∙ or_left (member (fields_by t) f) (member (held_field held) f) e)
            where
              small : fields_of vs < 2 ^ 64
              small = set_of_lt (λ f. any_of (eqb f) vs) 64

          waiting : (s : Standing) → held ≡ s → held ≡ Waiting
          waiting Waiting e = e
          waiting (Holding v) e =
              let lv : v < 64 = ch.field v e in
              let q = none_zero (fields_by t) (held_field held) v z lv in
              absurd (clash (rw (e, member_only v v lv, eq-eqb v v refl) (either (member (fields_by t) v))) q)
            where
              either : (b : Bool) → (b || true) ≡ true
              either true = refl
              either false = refl

      pub decides_verdict : Decides p k cmd path (step_of t n place l held c)
      unfolding taken moved
      decides_verdict = record {
        takes = record {
          panel = taking ∙ ap (λ (a : Answer). a.panel) (sym accept);
          changed = turns ∙ ap (λ (a : Answer). turned p a.panel) (sym accept);
          still = still;
          path_of = path_of;
          freed_field = ch.field;
          freed_turns = λ v e x. set_anew v e (x ∙ ap (λ (a : Answer). at a.panel.setter v) accept);
          keeps = ch.keeps;
        };
        reply =
            ap (λ (a : Answer). reply_bytes (counted (Ok 0) (redrawn_by fields_changed 0 a.panel))) accept
            ∙ counted_none (redrawn_by fields_changed 0 r)
            ∙ ap (λ (m : ℕ). 0x00 ∷ size m ∷ []) (redrawn_by_lem p r fields_changed legal_after.few turns)
            ∙ ap (λ (a : Answer). a.reply) (sym accept);
        uncounted = refl;
        unvalued = refl;
      }
        where
          fields_changed : ℕ
          fields_changed = union (fields_by t) (held_field held)

          turns : fields_changed ≡ turned p r
          turns = turned_is p r fields_changed legal_after.few (union_lt (fields_by t) (held_field held)) changed past

    -- nothing is reversed
    pub decides_free : length path ≡ 64 → (c : ℕ) → performed p cmd ≡ accepted p after → Decides p k cmd path (step_of Free n place l held c)
    unfolding reversed any_of
    decides_free long c accept =
        decides_verdict Free c [] after refl (λ i. refl) (sym (fields_none []))
        (λ f. sym (ap not (eq-eqb (at after.setter f) (at after.setter f) refl))) accept
        (record { full = long; few = omega arith; fields = λ i l. absurd (omega arith) }) (λ z. (refl, refl)) refl

    module _ (d : Item) (h : Carrying d after) (loopless : is_looped after ≡ false) (force : in_force after.size after.links d ≡ true)
        (levels others reads : List ℕ) (tabled : Tabled after levels others reads) where
      -- the path for the item d is reversed
      pub decides_path : is_blocked after d ≡ true → (s count m : ℕ)
          → s ≡ greatest (member (outputs_of after.links d)) (strength (at levels) (at others) after.size) 64
          → Found levels others after.size s (outputs_of after.links d) (cover_of after.links d) reads path count false → m ≡ fields_of (take count path)
          → performed p cmd ≡ reverse_step p after d → Decides p k cmd path (step_of (Path count m) n place l held (number_of d))
      decides_path b s count m top found em step =
          decides_verdict (Path count m) (number_of d) vs (reversed after d vs)
          (found_panel after d h loopless force levels others reads tabled b s count path false top found)
          (λ i. reverse_force after d vs h route after.size (link i)) fields
          (reversed_changes after d vs h route)
          (step ∙ found_accepted after d h loopless force levels others reads tabled b s count path false top found p refl)
          found.fields (λ z. absurd (some z)) (reversed_size after d vs)
        where
          vs : List ℕ
          vs = path_for after d

          route : Route after d vs
          route = route_for after d h loopless (blocking after d b)

          fields : m ≡ fields_of (path_for after d)
          fields = em ∙ ap fields_of (decided_path after d h loopless force levels others reads tabled b s count path false top found)

          some : m ≡ 0 → ⊥
          some z =
              let start = start_of_lem after d h (blocking after d b) in
              let small : start_of after d < 64 = omega (arith, start.small, h.few) in
              let r = path_for_lem after d h loopless start.small in
              clash (ap (λ (x : ℕ). member x (start_of after d)) fields ∙ fields_first (start_of after d) (path_for after d) r.rest r.starts small)
              (ap (λ (x : ℕ). member x (start_of after d)) z ∙ member_empty (start_of after d))

      -- by what is to be done for d, which waits
      module _ (waiting : waits after.size after.links after.setter d ≡ true) (lev outs cover : ℕ) (lev_is : level after d ≡ lev)
          (outs_are : outputs_of after.links d ≡ outs) (cover_is : cover_of after.links d ≡ cover) where
        blocked_is : is_blocked after d ≡ ltb lev (greatest (member outs) (strength (at levels) (at others) after.size) 64)
        blocked_is =
            is_blocked_lem after d h loopless force levels others reads tabled _ waiting refl
            ∙ rw (lev_is, outs_are) refl

        pub resolved_free : Resolved levels others after.size lev outs cover reads path Free → is_blocked after d ≡ false
        resolved_free e = blocked_is ∙ e.0

        pub resolved_loop : Resolved levels others after.size lev outs cover reads path Looped → (is_blocked after d ≡ true → performed p cmd ≡ reverse_step p after d)
            → performed p cmd ≡ refused p Loop
        resolved_loop (e, (count, f)) step =
            let b : is_blocked after d ≡ true = blocked_is ∙ e in
            step b
            ∙ found_refused after d h loopless force levels others reads tabled b _ count path true refl (rw (← outs_are, ← cover_is) at f) p refl

        pub resolved_step : (t : Verdict) → t ≢ Looped → Resolved levels others after.size lev outs cover reads path t
            → (t ≡ Free → is_blocked after d ≡ false → performed p cmd ≡ accepted p after) → (is_blocked after d ≡ true → performed p cmd ≡ reverse_step p after d)
            → Decides p k cmd path (step_of t n place l held (number_of d))
        resolved_step Free ne e free step = decides_free e.1 (number_of d) (free refl (resolved_free e))
        resolved_step Looped ne e free step = absurd (ne refl)
        resolved_step (Path count m) ne (e, f) free step =
            let b : is_blocked after d ≡ true = blocked_is ∙ e in
            decides_path b _ count m refl (rw (← outs_are, ← cover_is) at f.0) f.1 (step b)
