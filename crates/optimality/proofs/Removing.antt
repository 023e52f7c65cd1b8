-- A sound state stays sound where a link goes out of force, as through Remove. A link that waits just goes (`drop_waiting`). One that holds v
-- leaves it to v's stay; if nothing is blocked then, that is the new state (`none_sound`), else the least blocked item goes in, which is
-- `removal_unblocked` of `Removal` read for panels (`some_sound`).
use Prim.Native.Nat.{ℕ, ◌≤◌, ◌<◌, min, max}
use mathlib.Core.Path.{◌≡◌, refl, sym, ap, ◌∙◌}
use mathlib.Core.Bool.{Bool, true, false}
use mathlib.Core.Option.{Option, none, some}
use mathlib.Core.Logic.{◌≢◌, ◌⊎◌, inl, inr}
use native.Mathlib.Nat.{le_of_eq}
use native.Mathlib.Omega.{arith}
use borrow.Author.Tests.{eqb-true}
use lib.ListN.{set}
use Rattle.fieldset.specs.Fields.{member, only}
use Rattle.fieldset.proofs.Numbers.{clash}
use Rattle.fieldset.proofs.Fields.{member_only, member_empty}
use Rattle.panel.specs.declared.Standing.{Standing}
use Rattle.panel.specs.declared.Standing.TheVariants.{Waiting, Holding}
use Rattle.panel.specs.declared.Link.{Link}
use Rattle.panel.specs.declared.Panel.{Panel}
use Rattle.panel.specs.Items.{Item, link, stay, no_link, link_at, outputs_of, is_in_force, in_force}
use Rattle.panel.specs.Panels.{with_link, with_setter, freed, dropped}
use Rattle.panel.specs.Solution.{level, strength_of, is_blocked, path_for, least_blocked}
use Rattle.panel.specs.Steps.{settled, drop_step, remove_step}
use Rattle.panel.specs.Legal.{Legal}
use Rattle.panel.proofs.InForce.{force_used, waiting_force}
use Rattle.panel.proofs.Reversed.{put, same_item, link_here, set_setter, number_setter}
use Rattle.panel.proofs.Legal.{LegalBut, force_small}
use Rattle.panel.proofs.Setters.{waits_idle}
use Rattle.panel.proofs.Reversal.{blocking, start_of, legal_waits}
use Rattle.panel.proofs.Changes.{Aside, none_aside, legal_aside}
use Rattle.panel.proofs.Least.{LeastBlocked, least_blocked_lem, none_least}
use Rattle.optimality.specs.Condition3.{Store, entry}
use Rattle.optimality.specs.Agreement.{Agrees, Sound}
use Rattle.optimality.specs.States.{LooksAlike}
use Rattle.optimality.proofs.Setters.{Graph, Waits, Free, Unblocked}
use Rattle.optimality.proofs.Changes.{Change, changed_potential, changed_free}
use Rattle.optimality.proofs.Removal.{struck_potential, removal_unblocked}
use Rattle.optimality.proofs.Graphs.{graph_of, setters_of, legal_whole, strength_least, none_unblocked, free_unblocked, unblocked_free, blocked_waits}
use Rattle.optimality.proofs.Paths.{path_start, path_reversible}
use Rattle.optimality.proofs.Agreement.{agrees_link}
use Rattle.optimality.proofs.Steps.{SoundAfter, reverse_sound, there, link_none}

-- a link is replaced by one that is not in force, of no higher level and no other outputs
module _ (b : Store) (p : Panel) (x : Sound b p) (id : ℕ) (lt : id < 128) (used : (link_at p.links id).used ≡ true)
    (l : Link) (a : Aside p.size l) (low : l.level ≤ (link_at p.links id).level)
    (fewer : (u : ℕ) → member l.outputs u ≡ true → member (link_at p.links id).outputs u ≡ true) where
  abbrev b' : Store
  b' = entry b id none

  gone : link_at (set p.links id l) id ≡ l
  gone = link_here p.links id l (omega (arith, x.legal.links_length))

  never : in_force p.size (set p.links id l) (link id) ≡ true → ⊥
  never u = clash u (ap is_in_force gone ∙ a.off)

  left_agrees : Agrees b' (with_link p id l)
  left_agrees = agrees_link b p id l none (rw a.off) (omega (arith, x.legal.links_length)) x.agrees

  -- the link waits
  drop_waiting : (link_at p.links id).standing ≡ Waiting → Sound b' (with_link p id l)
  drop_waiting e =
      let k = legal_aside p id l a x.legal lt Waiting e in
      record {
        legal = k;
        agrees = left_agrees;
        unblocked =
            link_none p x.legal x.unblocked id l
            (waits_idle (stay p.size) p.size p.links p.setter (legal_whole p x.legal).carrying.held (link id) (rw (waiting_force (link_at p.links id) used e, e)))
            (legal_whole (with_link p id l) k)
            (free_unblocked (legal_whole (with_link p id l) k) (link id) (λ w. absurd (never w.force)));
      }

  -- the link holds v
  module _ (v : ℕ) (holds : (link_at p.links id).standing ≡ Holding v) where
    abbrev q : Panel
    q = with_setter (with_link p id l) v 128

    q_legal : Legal q
    q_legal = legal_aside p id l a x.legal lt (Holding v) holds

    k : LegalBut (stay q.size) q
    k = legal_whole q q_legal

    q_agrees : Agrees b' q
    q_agrees = record { links = left_agrees.links; stays = left_agrees.stays; below = left_agrees.below; places = left_agrees.places }

    v_below : v < p.size
    v_below = x.legal.holding_field id v lt holds

    few : p.size ≤ 64
    few = x.legal.few

    v_setter : setters_of p v ≡ link id
    v_setter = number_setter p.setter v id (x.legal.holding_sets id v lt holds) lt

    now : setters_of q ≡ put (setters_of p) v (stay v)
    now = set_setter p.setter v (stay v) x.legal.setter_length (omega (arith, v_below, few)) refl

    -- ---- the graph with the link still in force, as it now is

    abbrev before : Graph
    before = record { n = p.size; lev = level q; out = (graph_of q).out; force = in_force p.size p.links }

    change : Change (graph_of p) before (setters_of p) (link id) (λ n. n)
    change =
        record {
          size = refl;
          mono = λ a b le. le;
          level = λ f lf. lev_st (setters_of p f) (same_item (setters_of p f) (link id));
          outs = λ f u lf o. out_st (setters_of p f) u o (same_item (setters_of p f) (link id));
          others = λ w u ne. (u, (there p id l w ne).1, λ v o. rw (there p id l w ne).2 at o);
        }
      where
        lev_st : (w : Item) → Dec (w ≡ link id) → level q w ≤ level p w
        lev_st w (yes e) = rw e (omega (arith, ap (λ (l : Link). l.level) gone, low))
        lev_st w (no e) = le_of_eq (there p id l w e).1

        out_st : (w : Item) (u : ℕ) → member (outputs_of q.links w) u ≡ true → Dec (w ≡ link id) → member (outputs_of p.links w) u ≡ true
        out_st w u o (yes e) = rw e (fewer u (sym (ap (λ (l : Link). member l.outputs u) gone) ∙ (rw e at o)))
        out_st w u o (no e) = rw (there p id l w e).2 at o

    un : Unblocked before (setters_of p) (strength_of p)
    un = record { potential = changed_potential un₀ change; free = λ w h. changed_free un₀ change w h (λ e. h.idle v v_below (v_setter ∙ sym e)) }
      where
        un₀ : Unblocked (graph_of p) (setters_of p) (strength_of p)
        un₀ = none_unblocked (legal_whole p x.legal) x.unblocked

    stay_only : (u : ℕ) → u < p.size → member (only v) u ≡ true → u ≡ v
    stay_only u l o = eqb-true u v (sym (member_only v u (omega (arith, few))) ∙ o)

    kept : (w : Item) → in_force p.size q.links w ≡ true → (in_force p.size p.links w ≡ true) × (w ≢ setters_of p v)
    kept w u = go (same_item w (link id))
      where
        go : Dec (w ≡ link id) → (in_force p.size p.links w ≡ true) × (w ≢ setters_of p v)
        go (yes e) = absurd (never (rw e at u))
        go (no e) = (sym (there p id l w e).0 ∙ u, λ d. e (d ∙ v_setter))

    -- ---- the least blocked item goes in

    module _ (d : Item) (blocked : is_blocked q d ≡ true) (least : (c : Item) → is_blocked q c ≡ true → level q d ≤ level q c) where
      kd : LegalBut d q
      kd = legal_waits q d q_legal (blocking q d blocked).waits_now

      d_least : (w : Item) → Waits (graph_of q) (setters_of q) w → Free (graph_of q) (strength_of q) w ⊎ (level q d ≤ level q w)
      d_least w h = go (is_blocked q w) refl
        where
          go : (t : Bool) → is_blocked q w ≡ t → Free (graph_of q) (strength_of q) w ⊎ (level q d ≤ level q w)
          go true e = inr (least w e)
          go false e = inl (unblocked_free k w e h)

      some_sound : SoundAfter b b' (settled p q (some d))
      some_sound =
          reverse_sound b b' p q d x kd blocked q_agrees (λ f. min (strength_of q f) (max (level q d) (strength_of p f)))
          (rw now
          (removal_unblocked before (in_force p.size q.links) (setters_of p) (strength_of p) un v (stay v) stay_only kept
          (strength_of q)
          (strength_least k (λ f. max (level q (stay v)) (strength_of p f))
          (rw now (struck_potential before (in_force p.size q.links) (setters_of p) (strength_of p) un v (stay v) stay_only kept)))
          d (rw now at (blocked_waits k d blocked)) (rw now at d_least)
          (start_of q d) (path_start kd blocked).small (path_start kd blocked).output (path_for q d) (rw now at (path_reversible kd blocked))))

    none_sound : ((c : Item) → is_blocked q c ≡ false) → SoundAfter b b' (settled p q none)
    none_sound a = record { legal = q_legal; agrees = q_agrees; unblocked = a }

    settled_sound : SoundAfter b b' (settled p q (least_blocked q))
    settled_sound = go (least_blocked q) (least_blocked_lem q q_legal)
      where
        go : (o : Option Item) → LeastBlocked q o → SoundAfter b b' (settled p q o)
        go none a = none_sound a
        go (some d) a = some_sound d a.0 a.1

  pub drop_sound : (s : Standing) → (link_at p.links id).standing ≡ s → SoundAfter b b' (drop_step p (freed (with_link p id l) s) s)
  drop_sound Waiting e = drop_waiting e
  drop_sound (Holding v) e = settled_sound v e

pub remove_sound : (b : Store) (p : Panel) → Sound b p → (id : ℕ) → id < 128 → (link_at p.links id).used ≡ true
    → SoundAfter b (entry b id none) (remove_step p id)
unfolding remove_step dropped
remove_sound b p x id lt used =
    drop_sound b p x id lt used no_link (none_aside p.size) (omega arith) (λ u o. absurd (clash o (member_empty u)))
    (link_at p.links id).standing refl

-- without a link that waits nothing is blocked
pub looks_alike : {b : Store} {p : Panel} → Sound b p → LooksAlike p
unfolding remove_step dropped
looks_alike {b} {p} x id force = go (link_at p.links id).standing refl
  where
    small : id < 128
    small = force_small p.links id x.legal.links_length force

    go : (s : Standing) → (link_at p.links id).standing ≡ s
        → let q = freed (with_link p id no_link) s in drop_step p q s ≡ settled p q (least_blocked q)
    go Waiting e =
        let q = with_link p id no_link in
        let y : Sound (entry b id none) q =
        drop_waiting b p x id small (force_used _ force) no_link (none_aside p.size) (omega arith) (λ u o. absurd (clash o (member_empty u))) e in
        ap (settled p q) (sym (none_least q (least_blocked q) (least_blocked_lem q y.legal) y.unblocked))
    go (Holding v) e = refl
