-- Values: rounding has one result; an accepted kind 07 is a run of the plan of a legal panel, whose formulas were given to their links
-- (`setter_held`), so that each is right afterwards (`plan_settled`); a refusal leaves the sheet. Assumes nothing.
use Prim.Native.Nat.{ℕ, ◌≤◌, ◌<◌}
use mathlib.Core.Path.{◌≡◌, refl, sym, ap, subst, ◌∙◌}
use mathlib.Core.Bool.{Bool, true, false}
use mathlib.Core.List.{List, [], ◌∷◌}
use mathlib.Core.Logic.{◌⊎◌, inl, inr, ◌≢◌}
use native.Mathlib.Omega.{arith}
use borrow.Author.Tests.{lt-ltb, ltb-true, ltb-false}
use lib.Dec.{ltb}
use lib.IntN.{ℤ}
use lib.ListN.{get_or, set}
use Rattle.fieldset.specs.Tables.{at}
use Rattle.fieldset.specs.Fields.{size}
use Rattle.fieldset.proofs.Numbers.{clash}
use Rattle.panel.specs.declared.Link.{Link}
use Rattle.panel.specs.declared.Refusal.{Refusal}
use Rattle.panel.specs.declared.Refusal.TheVariants.{OutOfRange, FieldDriven}
use Rattle.panel.specs.declared.Standing.TheVariants.{Holding}
use Rattle.panel.specs.Items.{link_at}
use Rattle.panel.specs.Answers as answers
use Rattle.panel.specs.Answers.{refusal_bytes, is_refusal}
use Rattle.panel.specs.Solution.{setter_reads, plan_of, is_looped}
use Rattle.panel.specs.Commands as panel
use Rattle.panel.specs.Commands.{touching, check_reply}
use Rattle.panel.specs.Legal.{Legal}
use Rattle.panel.proofs.Performed.{legal_performed, Keeps}
use Rattle.optimality.proofs.Answers.{Any, Not, touching_outcome, not_given, refused_unchanged}
use Rattle.values.proofs.Ratios.{scaled_nearest, nearest_scaled}
use Rattle.formulas.specs.Formulas.{formula_of, accepted}
use Rattle.evaluation.specs.Runs.{Settled}
use Rattle.evaluation.proofs.Planned.{plan_settled}
use Rattle.sheet.specs.declared.Sheet.{Sheet}
use Rattle.sheet.specs.Sheets.{sheet_of, formula_at, evaluated}
use Rattle.sheet.specs.Commands.{solving, entering, relating, Answer, is_driven, redrawn, entered, sum_past, performed}
use Rattle.sheet.specs.Legal.{LegalSheet}
use Rattle.sheet.proofs.Legal.{Left, Stored, entering_cases, Touched}
use Rattle.sheet.proofs.Legal as legality
use Rattle.sheet.proofs.Held.{setter_covered, setter_held}
use Rattle.exactness.specs.Values.{EveryRatio, Exact, EnteredExactly, touched, AsTouched, EnteredAsTouched, EnteringAnswered, EnteringExactly, Relating, RelatingExactly, RefusedUnchanged}

-- ---- rounding

pub every_ratio : EveryRatio
every_ratio v p q some = record { nearest = scaled_nearest v p q some; only = nearest_scaled v p q some }

-- ---- kind 07

-- what is settled of the setters' formulas, said of the links
module _ (before after : Sheet) (f : ℕ) (v : ℤ) (h : Legal after.panel)
    (t : Settled (formula_of after.formulas after.panel.setter) (setter_covered after.panel) after.panel.size f v before.values after.values)
    (free : is_driven after.panel f ≡ false) where
  module _ (i g : ℕ) (small : i < 128) (holds : (link_at after.panel.links i).standing ≡ Holding g) where
    sets : at after.panel.setter g ≡ i
    sets = h.holding_sets i g small holds

    formula_is : formula_of after.formulas after.panel.setter g ≡ formula_at after.formulas i
    formula_is = rw sets (rw (lt-ltb i 128 small) refl)

    covered_is : setter_covered after.panel g ≡ (link_at after.panel.links i).covered
    covered_is = ap (λ (k : ℕ). (link_at after.panel.links k).covered) sets

    -- no link sets f
    other : g ≢ f
    other e = clash (rw (← e, sets) (lt-ltb i 128 small)) free

  settled_exact : Exact before after f v
  settled_exact = record {
    stored = t.has;
    right = λ i g small holds.
        rw (← formula_is i g small holds, ← covered_is i g small holds) (t.right g (h.holding_field i g small holds));
    link_keeps = λ i g small holds none. t.kept g (other i g small holds) (formula_is i g small holds ∙ none);
    stay_keeps = λ g low stays d. t.kept g d (rw stays refl);
  }

pub entered_exactly : (s : Sheet) → LegalSheet s → EnteredExactly s
unfolding plan_of is_looped
entered_exactly s h f v ok = go (entering_cases s f v)
  where
    touch : answers.Answer
    touch = panel.performed s.panel (touching f)

    legal : Legal touch.panel
    legal = legal_performed s.panel (touching f) h.panel

    kept : is_refusal touch.reply ≡ false → Keeps (Touched s h f) s.panel touch → Touched s h f touch.panel
    kept e (inl (r, d)) = absurd (clash r e)
    kept e (inr (r, t)) = t

    exact : (a : Stored s f v (performed s (entering f v))) → Touched s h f touch.panel
        → Exact s (sheet_of touch.panel s.formulas (evaluated touch.panel s.formulas (set s.values f v)).values) f v
    exact a t =
        settled_exact s (sheet_of touch.panel s.formulas (evaluated touch.panel s.formulas (set s.values f v)).values) f v legal
        (plan_settled (setter_reads touch.panel) touch.panel.size legal.few (formula_of s.formulas touch.panel.setter)
        (setter_covered touch.panel) f v s.values legal.loopless h.values_length (setter_held touch.panel s.formulas legal t.fits)
        (omega (arith, t.low, h.panel.few)) (rw a.free refl) a.fits)
        a.free

    go : Left s (performed s (entering f v)) ⊎ Stored s f v (performed s (entering f v)) → Exact s (performed s (entering f v)).sheet f v
    go (inl l) = absurd (clash l.refusal ok)
    go (inr a) = subst (λ (x : Answer). Exact s x.sheet f v) (sym a.is) (exact a (kept a.touched (legality.touched s h f)))

pub entered_as_touched : EnteredAsTouched
entered_as_touched s f v ok = go (entering_cases s f v)
  where
    go : Left s (performed s (entering f v)) ⊎ Stored s f v (performed s (entering f v)) → AsTouched s f v
    go (inl l) = absurd (clash l.refusal ok)
    go (inr a) = record {
      reply = subst (λ (x : Answer). x.reply ≡ 0x00 ∷ size (redrawn s x.sheet) ∷ []) (sym a.is) refl;
      panel = ap (λ (x : Answer). x.sheet.panel) a.is;
      formulas = ap (λ (x : Answer). x.sheet.formulas) a.is;
    }

-- ---- when kinds 07 and 08 are refused, and when they are accepted

-- replies with another second byte
pub differ : {a b : List ℕ} → (at a 1 ≡ at b 1 → ⊥) → a ≡ b → ⊥
differ h e = h (ap (λ (x : List ℕ). at x 1) e)

-- a touch gives neither of kind 07's own refusals
touch_not : (s : Sheet) (f : ℕ) (r : Refusal) → 12 ≤ get_or (refusal_bytes r) 0 0 → (touched s f).reply ≢ 0xFF ∷ refusal_bytes r
touch_not s f r l =
    not_given (Not (get_or (refusal_bytes r) 0 0)) s.panel (touched s f)
    (touching_outcome (Not (get_or (refusal_bytes r) 0 0)) Any s.panel (λ x h e. omega arith) (λ q. tt) (λ e. omega arith) f) r (λ h. h refl)

pub entering_exactly : EnteringExactly
unfolding entered
entering_exactly s f v =
    go (is_refusal (touched s f).reply) refl (is_driven (touched s f).panel f) refl (evaluated (touched s f).panel s.formulas (set s.values f v)).fits refl
  where
    go : (x : Bool) → is_refusal (touched s f).reply ≡ x → (y : Bool) → is_driven (touched s f).panel f ≡ y
        → (z : Bool) → (evaluated (touched s f).panel s.formulas (set s.values f v)).fits ≡ z → EnteringAnswered s f v
    go true e y d z g =
        let is : (performed s (entering f v)).reply ≡ (touched s f).reply = rw e refl in
        record {
          first = λ r. is;
          driven = (λ r. absurd (touch_not s f FieldDriven (omega arith) (sym is ∙ r)), λ h. absurd (clash e h.0));
          out = (λ r. absurd (touch_not s f OutOfRange (omega arith) (sym is ∙ r)), λ h. absurd (clash e h.0));
          accepted = (λ r. absurd (clash (ap is_refusal is ∙ e) r), λ h. absurd (clash e h.0));
        }
    go false e true d z g =
        let is : (performed s (entering f v)).reply ≡ 0xFF ∷ refusal_bytes FieldDriven = rw (e, d) refl in
        record {
          first = λ r. absurd (clash r e);
          driven = (λ r. (e, d), λ h. is);
          out = (λ r. absurd (differ (λ q. omega arith) (sym is ∙ r)), λ h. absurd (clash d h.1));
          accepted = (λ r. absurd (clash (ap is_refusal is) r), λ h. absurd (clash d h.1));
        }
    go false e false d false g =
        let is : (performed s (entering f v)).reply ≡ 0xFF ∷ refusal_bytes OutOfRange = rw (e, d, g) refl in
        record {
          first = λ r. absurd (clash r e);
          driven = (λ r. absurd (differ (λ q. omega arith) (sym is ∙ r)), λ h. absurd (clash h.1 d));
          out = (λ r. (e, d, g), λ h. is);
          accepted = (λ r. absurd (clash (ap is_refusal is) r), λ h. absurd (clash h.2 g));
        }
    go false e false d true g =
        let is : is_refusal (performed s (entering f v)).reply ≡ false = rw (e, d, g) refl in
        record {
          first = λ r. absurd (clash r e);
          driven = (λ r. absurd (clash (ap is_refusal r) is), λ h. absurd (clash h.1 d));
          out = (λ r. absurd (clash (ap is_refusal r) is), λ h. absurd (clash g h.2));
          accepted = (λ r. (e, d, g), λ h. is);
        }

pub relating_exactly : RelatingExactly
unfolding check_reply
relating_exactly s id formula = go (ltb 0 n) refl (ltb 127 id) refl (sum_past n formula) refl l.used refl (accepted formula l.covered) refl
  where
    n : ℕ
    n = s.panel.size

    l : Link
    l = link_at s.panel.links id

    go : (a : Bool) → ltb 0 n ≡ a → (b : Bool) → ltb 127 id ≡ b → (c : Bool) → sum_past n formula ≡ c → (d : Bool) → l.used ≡ d
        → (e : Bool) → accepted formula l.covered ≡ e → Relating n id l formula (performed s (relating id formula)).reply
    go false a b eb c ec d ed e ee = rw a (Relating.not_open (omega (arith, ltb-false 0 n a)))
    go true a true eb c ec d ed e ee = rw (a, eb) (Relating.bad_link (ltb-true 0 n a) (ltb-true 127 id eb))
    go true a false eb true ec d ed e ee = rw (a, eb, ec) (Relating.no_such_field (ltb-true 0 n a) (ltb-false 127 id eb) ec)
    go true a false eb false ec false ed e ee = rw (a, eb, ec, ed) (Relating.no_such_link (ltb-true 0 n a) (ltb-false 127 id eb) ec ed)
    go true a false eb false ec true ed false ee = rw (a, eb, ec, ed, ee) (Relating.bad_formula (ltb-true 0 n a) (ltb-false 127 id eb) ec ed ee)
    go true a false eb false ec true ed true ee = rw (a, eb, ec, ed, ee) (Relating.done (ltb-true 0 n a) (ltb-false 127 id eb) ec ed ee)

-- ---- refusals

pub refused_sheet_unchanged : RefusedUnchanged
refused_sheet_unchanged s (solving c) e =
    let same : (panel.performed s.panel c).panel ≡ s.panel = refused_unchanged s.panel c e in
    rw (e, same) refl
refused_sheet_unchanged s (entering f v) e = go (entering_cases s f v)
  where
    go : Left s (performed s (entering f v)) ⊎ Stored s f v (performed s (entering f v)) → (performed s (entering f v)).sheet ≡ s
    go (inl l) = l.same
    go (inr a) = absurd (clash e (ap (λ (x : Answer). is_refusal x.reply) a.is))
refused_sheet_unchanged s (relating id formula) e = rw e refl
