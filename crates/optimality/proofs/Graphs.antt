-- A panel as a constraint graph with setters: its strengths, and its waiting and blocked items, in the argument's terms. The strengths are the
-- least potential (`strength_potential` by the rank that the plan gives, `strength_least`), so nothing is blocked exactly where some potential
-- blocks nothing (`unblocked_none`, `none_unblocked`).
use Prim.Native.Nat.{ℕ, ◌≤◌, ◌<◌}
use mathlib.Core.Path.{◌≡◌, refl, ◌∙◌}
use mathlib.Core.Bool.{Bool, true, false, ◌&&◌}
use mathlib.Core.Logic.{◌≢◌, ◌⊎◌, inl, inr}
use native.Mathlib.Nat.{le_refl, le_trans}
use native.Mathlib.Decide.{ℕ_discrete, dec_lt}
use native.Mathlib.Omega.{arith}
use borrow.Author.Tests.{lt-ltb, le-ltb, ltb-true, ltb-false}
use lib.Dec.{ltb}
use Rattle.fieldset.specs.Tables.{at}
use Rattle.fieldset.specs.Numbers.{any}
use Rattle.fieldset.specs.Fields.{member}
use Rattle.fieldset.proofs.Numbers.{any_false, any_none}
use Rattle.fieldset.proofs.Fields.{member_without_other}
use Rattle.strength.proofs.Depth.{strength_level, strength_bound_in, strength_other}
use Rattle.fieldset.proofs.Tests.{and_left, and_right}
use Rattle.ordering.proofs.Plan.{rank_of}
use Rattle.panel.specs.declared.Panel.{Panel}
use Rattle.panel.specs.Items.{Item, link, stay, link_at, setter_of, outputs_of, is_in_force, in_force, waits}
use Rattle.panel.specs.Solution.{level, setter_level, setter_others, setter_reads, strength_of, is_blocked}
use Rattle.panel.specs.Legal.{Legal}
use Rattle.panel.proofs.Reversed.{same_item, setter_stay}
use Rattle.panel.proofs.Legal.{Rests, Carrying, LegalBut, force_small}
use Rattle.panel.proofs.Setters.{whole, outputs_inside, setter_force, setter_output, setter_single, others_out, others_inside, setter_ranked, setter_falls, waits_idle, waits_or_sets, waits_force, rests_waiting}
use Rattle.optimality.proofs.Setters.{Graph, Waits, Assigned, Potential, Free, Unblocked}

abbrev pub graph_of : Panel → Graph
graph_of p = record { n = p.size; lev = level p; out = λ c u. member (outputs_of p.links c) u; force = in_force p.size p.links }

abbrev pub setters_of : Panel → ℕ → Item
setters_of p = setter_of p.setter

-- a legal panel leaves no item open
pub legal_whole : (p : Panel) → Legal p → LegalBut (stay p.size) p
legal_whole p h = record { carrying = whole p h; rests = tt; loopless = h.loopless }

pub assigned : {p : Panel} {c : Item} → Carrying c p → Assigned (graph_of p) (setters_of p)
assigned {p} {c} h = record { force = setter_force p c h; may = setter_output p c h; single = setter_single p c h }

module _ {p : Panel} {c : Item} (h : LegalBut c p) where
  -- ---- strengths

  -- no potential is below the strengths
  pub strength_least : (s : ℕ → ℕ) → Potential (graph_of p) (setters_of p) s → (f : ℕ) → f < p.size → strength_of p f ≤ s f
  unfolding strength_of
  strength_least s po =
      strength_bound_in (setter_level p) (setter_others p) (λ f. f < p.size) s
      (others_inside p c h.carrying)
      (λ f l. (po f l).level)
      (λ f u l lu e. (po f l).outs u (others_inside p c h.carrying f u l lu e) (others_out p c h.carrying f u lu e))
      p.size

  -- the strengths are a potential
  pub strength_potential : Potential (graph_of p) (setters_of p) (strength_of p)
  unfolding strength_of
  strength_potential f l =
      record {
        level = strength_level (setter_level p) (setter_others p) p.size f (omega arith);
        outs = λ u lu ou. go u lu ou (ℕ_discrete u f);
      }
    where
      few : p.size ≤ 64
      few = h.carrying.few

      rank : ℕ → ℕ
      rank = rank_of (setter_reads p) p.size

      go : (u : ℕ) → u < p.size → member (outputs_of p.links (setters_of p f)) u ≡ true → Dec (u ≡ f) → strength_of p u ≤ strength_of p f
      go u lu ou (yes q) = rw q (le_refl _)
      go u lu ou (no q) =
          strength_other (setter_level p) (setter_others p) rank (setter_falls p c h.carrying rank (setter_ranked p c h.carrying h.loopless))
          p.size f u (omega arith) (omega arith) ((setter_ranked p c h.carrying h.loopless).small f l)
          (member_without_other (outputs_of p.links (setters_of p f)) f u (omega arith) q ∙ ou)

  -- ---- waiting items

  pub waits_true : (d : Item) → waits p.size p.links p.setter d ≡ true → Waits (graph_of p) (setters_of p) d
  waits_true d w =
      record {
        force = waits_force p.size p.links p.setter d w;
        idle = waits_idle c p.size p.links p.setter h.carrying.held d w;
      }

  open_waits : (d : Item) → Rests p.links d → Waits (graph_of p) (setters_of p) d → waits p.size p.links p.setter d ≡ true
  open_waits (link i) r w = rw (w.force, r)
  open_waits (stay f) r w = go (dec_lt (at p.setter f) 128)
    where
      go : Dec (at p.setter f < 128) → waits p.size p.links p.setter (stay f) ≡ true
      go (yes l) = rw (w.force, lt-ltb (at p.setter f) 128 l)
      go (no l) = absurd (w.idle f (ltb-true f p.size w.force) (setter_stay p.setter f (omega arith)))

  pub true_waits : (d : Item) → Waits (graph_of p) (setters_of p) d → waits p.size p.links p.setter d ≡ true
  true_waits d w = go (same_item d c)
    where
      sets : (waits p.size p.links p.setter d ≡ true) ⊎ ((f : ℕ) × (f < p.size) × (setters_of p f ≡ d))
          → waits p.size p.links p.setter d ≡ true
      sets (inl e) = e
      sets (inr (f, l, e)) = absurd (w.idle f l e)

      go : Dec (d ≡ c) → waits p.size p.links p.setter d ≡ true
      go (yes q) = open_waits d (rw q h.rests) w
      go (no q) = sets (waits_or_sets c p.size p.links p.setter h.carrying.held d q h.carrying.filled.full w.force)

  -- a required link does not wait, if it is not left open
  pub required_holds : (d : Item) → Waits (graph_of p) (setters_of p) d → d ≢ c → level p d ≢ 0
  required_holds (link i) w ne z =
      h.carrying.held.required i (force_small p.links i h.carrying.filled.full w.force) ne w.force z
      (rests_waiting (link_at p.links i).standing (and_right (is_in_force (link_at p.links i)) _ (true_waits (link i) w)))
  required_holds (stay f) w ne z = omega arith

  -- ---- blocked items

  abbrev over : Item → ℕ → Bool
  over d u = member (outputs_of p.links d) u && ltb (level p d) (strength_of p u)

  pub blocked_waits : (d : Item) → is_blocked p d ≡ true → Waits (graph_of p) (setters_of p) d
  unfolding is_blocked
  blocked_waits d e = waits_true d (and_left (waits p.size p.links p.setter d) (any (over d) 64) e)

  pub unblocked_free : (d : Item) → is_blocked p d ≡ false → Waits (graph_of p) (setters_of p) d → Free (graph_of p) (strength_of p) d
  unfolding is_blocked
  unblocked_free d e w u lu ou =
      ltb-false (level p d) (strength_of p u) (rw ou at (any_false (over d) 64 u (rw (true_waits d w) at e) (omega (arith, h.carrying.few))))

  pub free_unblocked : (d : Item) → (Waits (graph_of p) (setters_of p) d → Free (graph_of p) (strength_of p) d) → is_blocked p d ≡ false
  unfolding is_blocked
  free_unblocked d fr = go (waits p.size p.links p.setter d) refl
    where
      at_output : (u : ℕ) → u < 64 → Waits (graph_of p) (setters_of p) d → (b : Bool) → member (outputs_of p.links d) u ≡ b
          → (b && ltb (level p d) (strength_of p u)) ≡ false
      at_output u l w true e =
          le-ltb (level p d) (strength_of p u) (fr w u (outputs_inside p.size p.links h.carrying.filled d u w.force l e) e)
      at_output u l w false e = refl

      go : (b : Bool) → waits p.size p.links p.setter d ≡ b → (b && any (over d) 64) ≡ false
      go true e = any_none (over d) 64 (λ u l. at_output u l (waits_true d e) (member (outputs_of p.links d) u) refl)
      go false e = refl

  -- a potential that blocks nothing: nothing is blocked
  pub unblocked_none : (s : ℕ → ℕ) → Unblocked (graph_of p) (setters_of p) s → (d : Item) → is_blocked p d ≡ false
  unblocked_none s un d = free_unblocked d (λ w u lu ou. le_trans (strength_least s un.potential u lu) (un.free d w u lu ou))

  pub none_unblocked : ((d : Item) → is_blocked p d ≡ false) → Unblocked (graph_of p) (setters_of p) (strength_of p)
  none_unblocked none = record { potential = strength_potential; free = λ d w. unblocked_free d (none d) w }
