-- Every command leaves a legal sheet legal. A command of the panel leaves each link its covered fields and its number's use but for the link that it
-- adds, which had no formula, the one that it removes, which then has none, and the one that it changes (`fits_solved`, `changed_here`); a run of
-- the plan leaves every value within the limits (`run_within`) and reaches no field past the panel's (`run_others`). Assumes nothing.
use Prim.Native.Nat.{ℕ, ◌≤◌, ◌<◌}
use mathlib.Core.Path.{◌≡◌, refl, sym, ap, subst, ◌∙◌}
use mathlib.Core.Bool.{Bool, true, false, cond}
use mathlib.Core.List.{List, [], ◌∷◌}
use mathlib.Core.Logic.{◌⊎◌, inl, inr, ◌≢◌}
use native.Mathlib.Decide.{ℕ_discrete, dec_lt}
use native.Mathlib.Omega.{arith}
use borrow.Author.Tests.{ltb-false, not-false, eqb-true}
use lib.Dec.{eqb}
use lib.IntN.{ℤ, pos}
use lib.ListN.{length, set, length-set, length-replicate, get_or-replicate, get_or-eq_default}
use lib.Seq.{get_or-set_same, get_or-set_other}
use Rattle.std.specs.Prelude.{None}
use Rattle.fieldset.specs.Lists.{In}
use Rattle.fieldset.proofs.Numbers.{clash}
use Rattle.fieldset.proofs.Lists.{all_map, whole_in}
use Rattle.ordering.proofs.Plan.{order_low, order_whole}
use Rattle.panel.specs.declared.Link.{Link}
use Rattle.panel.specs.declared.Panel.{Panel}
use Rattle.panel.specs.Items.{Item, no_link, link_at}
use Rattle.panel.specs.Answers as answers
use Rattle.panel.specs.Answers.{refusal_bytes, is_refusal}
use Rattle.panel.specs.Panels.{opened, to_front}
use Rattle.panel.specs.Solution.{setter_reads, reversed, plan_of, is_looped}
use Rattle.panel.specs.Commands as panel
use Rattle.panel.specs.Commands.{opening, adding, removing, touching, planning, changing, covered_in, Passes, Check, check_reply}
use Rattle.panel.specs.Legal.{Legal}
use Rattle.panel.proofs.Reversed.{AllAlike, alike_covered, alike_used, link_here, link_there, reversed_alike, reversed_size}
use Rattle.panel.proofs.Changes.{unopened_links, dropped_parts}
use Rattle.panel.proofs.Checks.{addable, removable, changeable, touchable, openable, new_link}
use Rattle.panel.proofs.Performed.{legal_performed, Keeps, Without, AfterChange, kept_performed, performed_size}
use Rattle.values.specs.Limits.{value_at, outside}
use Rattle.formulas.specs.Formulas.{Rule, formula_of, accepted}
use Rattle.evaluation.specs.Runs.{Run}
use Rattle.evaluation.proofs.Settled.{run_within, run_others, run_length}
use Rattle.sheet.specs.declared.Sheet.{Sheet}
use Rattle.sheet.specs.Sheets.{sheet_of, blank, formula_at, with_formula, evaluated}
use Rattle.sheet.specs.Commands.{Command, solving, entering, relating, Answer, formulas_after, solved, is_driven, renewed, entered, formula_checks, related, performed}
use Rattle.sheet.specs.Legal.{Fits, LegalSheet}

-- ---- formulas that fit

abbrev FitsAll : (ℕ → Rule) → List Link → Type 0
FitsAll formula links = (k : ℕ) → Fits (formula k) (link_at links k)

-- they go by the covered fields and the numbers in use
fits_alike : {formula : Rule} (a b : List Link) → AllAlike a b → (k : ℕ) → Fits formula (link_at b k) → Fits formula (link_at a k)
fits_alike a b h k (inl e) = inl e
fits_alike {formula} a b h k (inr (u, e)) = inr (alike_used a b h k ∙ u, ap (accepted formula) (alike_covered a b h k) ∙ e)

-- a link may be another that its formula fits
fits_set : (formula : ℕ → Rule) (links : List Link) (i : ℕ) (l : Link) → i < length links → Fits (formula i) l
    → ((k : ℕ) → k ≢ i → Fits (formula k) (link_at links k)) → FitsAll formula (set links i l)
fits_set formula links i l here fits f k = go (ℕ_discrete k i)
  where
    go : Dec (k ≡ i) → Fits (formula k) (link_at (set links i l) k)
    go (yes e) = rw (e, link_here links i l here) fits
    go (no d) = subst (Fits (formula k)) (sym (link_there links i k l d)) (f k d)

-- a number that is not in use has no formula
unused_none : (formula : Rule) (l : Link) → Fits formula l → l.used ≡ false → formula ≡ None
unused_none formula l (inl e) u = e
unused_none formula l (inr (t, e)) u = absurd (clash t u)

-- no check applies where no refusal is replied
pub reply_passes : (cs : List Check) → is_refusal (check_reply cs) ≡ false → Passes cs
unfolding check_reply
reply_passes [] e = tt
reply_passes (c ∷ cs) e = go c.applies refl e (reply_passes cs)
  where
    go : (b : Bool) → c.applies ≡ b → is_refusal (elim b [ true ↦ 0xFF ∷ refusal_bytes c.refusal | false ↦ check_reply cs ]) ≡ false
        → (is_refusal (check_reply cs) ≡ false → Passes cs) → Passes (c ∷ cs)
    go true d e ih = absurd (clash refl e)
    go false d e ih = (d, ih e)

-- ---- kind 07, by its cases

-- a refusal leaves the sheet
pub record Left (s : Sheet) (a : Answer) : Type 0 where
  pub refusal : is_refusal a.reply ≡ true
  pub same : a.sheet ≡ s

-- the touch is accepted, no link sets the field, and every result is within the limits
pub record Stored (s : Sheet) (f : ℕ) (v : ℤ) (a : Answer) : Type 0 where
  pub touched : is_refusal (panel.performed s.panel (touching f)).reply ≡ false
  pub free : is_driven (panel.performed s.panel (touching f)).panel f ≡ false
  pub fits : (evaluated (panel.performed s.panel (touching f)).panel s.formulas (set s.values f v)).fits ≡ true
  pub is :
      a
      ≡ renewed s (sheet_of (panel.performed s.panel (touching f)).panel s.formulas
      (evaluated (panel.performed s.panel (touching f)).panel s.formulas (set s.values f v)).values)

pub entering_cases : (s : Sheet) (f : ℕ) (v : ℤ) → Left s (performed s (entering f v)) ⊎ Stored s f v (performed s (entering f v))
unfolding entered
entering_cases s f v =
    go (is_refusal touch.reply) refl (is_driven touch.panel f) refl (evaluated touch.panel s.formulas (set s.values f v)).fits refl
  where
    touch : answers.Answer
    touch = panel.performed s.panel (touching f)

    go : (b : Bool) → is_refusal touch.reply ≡ b → (c : Bool) → is_driven touch.panel f ≡ c
        → (d : Bool) → (evaluated touch.panel s.formulas (set s.values f v)).fits ≡ d
        → Left s (performed s (entering f v)) ⊎ Stored s f v (performed s (entering f v))
    go true e c g d h = inl (record { refusal = rw e e; same = rw e refl })
    go false e true g d h = inl (record { refusal = rw (e, g) refl; same = rw (e, g) refl })
    go false e false g false h = inl (record { refusal = rw (e, g, h) refl; same = rw (e, g, h) refl })
    go false e false g true h = inr (record { touched = e; free = g; fits = h; is = rw (e, g, h) refl })

-- no formula changes
pub entered_formulas : (s : Sheet) (f : ℕ) (v : ℤ) → (performed s (entering f v)).sheet.formulas ≡ s.formulas
entered_formulas s f v = go (entering_cases s f v)
  where
    go : Left s (performed s (entering f v)) ⊎ Stored s f v (performed s (entering f v)) → (performed s (entering f v)).sheet.formulas ≡ s.formulas
    go (inl l) = ap (λ (x : Sheet). x.formulas) l.same
    go (inr a) = ap (λ (x : Answer). x.sheet.formulas) a.is

module _ (s : Sheet) (h : LegalSheet s) where
  abbrev after : panel.Command → ℕ → Rule
  after c = formula_at (formulas_after s c)

  dropped_there : (id k : ℕ) → k ≢ id → after (removing id) k ≡ formula_at s.formulas k
  dropped_there id k d = get_or-set_other s.formulas id k None None d

  dropped_here : (id : ℕ) → id < 128 → after (removing id) id ≡ None
  dropped_here id l =
      get_or-set_same s.formulas id None None (omega (arith, h.formulas_length))

  -- the formula of a link that is changed fits it: the covered fields are the same, or there is none
  changed_here : (id level : ℕ) (bytes : List ℕ) → id < 128 → Fits (after (changing id level bytes) id) (new_link level bytes)
  changed_here id level bytes l = go (eqb (link_at s.panel.links id).covered (covered_in bytes)) refl (h.fits id)
    where
      go : (b : Bool) → eqb (link_at s.panel.links id).covered (covered_in bytes) ≡ b → Fits (formula_at s.formulas id) (link_at s.panel.links id)
          → Fits (formula_at (cond b s.formulas (with_formula s.formulas id None)) id) (new_link level bytes)
      go true e (inl n) = inl n
      go true e (inr (u, a)) = inr (refl, rw (← eqb-true (link_at s.panel.links id).covered (covered_in bytes) e) a)
      go false e f = inl (dropped_here id l)

  changed_there : (id level : ℕ) (bytes : List ℕ) (k : ℕ) → k ≢ id → (q : Panel) → Without s.panel id q
      → Fits (after (changing id level bytes) k) (link_at q.links k)
  changed_there id level bytes k d q w = go (eqb (link_at s.panel.links id).covered (covered_in bytes)) (kept (h.fits k))
    where
      -- of another link only the standing may be another
      kept : Fits (formula_at s.formulas k) (link_at s.panel.links k) → Fits (formula_at s.formulas k) (link_at q.links k)
      kept f =
          fits_alike q.links (set s.panel.links id no_link) w.links k
          (subst (Fits (formula_at s.formulas k)) (sym (link_there s.panel.links id k no_link d)) f)

      go : (b : Bool) → Fits (formula_at s.formulas k) (link_at q.links k)
          → Fits (formula_at (cond b s.formulas (with_formula s.formulas id None)) k) (link_at q.links k)
      go true f = f
      go false f = subst (λ (x : Rule). Fits x (link_at q.links k)) (sym (dropped_there id k d)) f

  fits_solved : (c : panel.Command) → AfterChange (λ q. FitsAll (after c) q.links) s.panel c
  unfolding opened to_front
  fits_solved (opening n) = λ a. subst (FitsAll (after (opening n))) (unopened_links s.panel h.panel (openable s.panel n a).0) h.fits
  fits_solved (adding id level bytes) = λ a.
      let new = addable s.panel id level bytes a in
      fits_set (after (adding id level bytes)) s.panel.links id (new_link level bytes) (omega (arith, h.panel.links_length, new.link.number))
      (inl (unused_none (formula_at s.formulas id) (link_at s.panel.links id) (h.fits id) new.free)) (λ k d. h.fits k)
  fits_solved (removing id) = λ a.
      subst (FitsAll (after (removing id))) (sym (dropped_parts s.panel id).1)
      (fits_set (after (removing id)) s.panel.links id no_link (omega (arith, h.panel.links_length, (removable s.panel id a).number))
      (inl (dropped_here id (removable s.panel id a).number))
      (λ k d. subst (λ (x : Rule). Fits x (link_at s.panel.links k)) (sym (dropped_there id k d)) (h.fits k)))
  fits_solved (touching f) = λ a. h.fits
  fits_solved planning = h.fits
  fits_solved (changing id level bytes) = λ a q w.
      let small = (changeable s.panel id level bytes a).number in
      fits_set (after (changing id level bytes)) q.links id (new_link level bytes) (omega (arith, w.full, h.panel.links_length)) (changed_here id level bytes small)
      (λ k d. changed_there id level bytes k d q w)

  after_length : (c : panel.Command) → length (formulas_after s c) ≡ 128
  after_length (opening n) = h.formulas_length
  after_length (adding id level bytes) = h.formulas_length
  after_length (removing id) = length-set s.formulas id None ∙ h.formulas_length
  after_length (touching f) = h.formulas_length
  after_length planning = h.formulas_length
  after_length (changing id level bytes) = go (eqb (link_at s.panel.links id).covered (covered_in bytes))
    where
      go : (b : Bool) → length (cond b s.formulas (with_formula s.formulas id None)) ≡ 128
      go true = h.formulas_length
      go false = length-set s.formulas id None ∙ h.formulas_length

  legal_solved : (c : panel.Command) → LegalSheet (performed s (solving c)).sheet
  legal_solved c =
      go (panel.performed s.panel c) (legal_performed s.panel c h.panel) (grows (dec_lt 0 s.panel.size))
      (kept_performed Fitting (λ q d vs f k. fits_alike (reversed q d vs).links q.links (reversed_alike q d vs) k (f k)) s.panel c (fits_solved c))
    where
      Fitting : Panel → Type 0
      Fitting q = FitsAll (after c) q.links

      -- there are no fewer fields
      grows : Dec (0 < s.panel.size) → s.panel.size ≤ (panel.performed s.panel c).panel.size
      grows (yes o) = omega (arith, performed_size s.panel c o)
      grows (no o) = omega arith

      go : (a : answers.Answer) → Legal a.panel → s.panel.size ≤ a.panel.size → Keeps Fitting s.panel a → LegalSheet (solved s c a).sheet
      go a k more (inl (e, d)) = rw (e, d) h
      go a k more (inr (e, fits)) = rw e (record {
        panel = k;
        fits = fits;
        formulas_length = after_length c;
        values_length = h.values_length;
        within = h.within;
        past = λ f l. h.past f (omega (arith, more));
      })

  -- ---- kind 07

  -- what the touch keeps
  pub record Touched (f : ℕ) (q : Panel) : Type 0 where
    pub fits : (k : ℕ) → Fits (formula_at s.formulas k) (link_at q.links k)
    pub size : q.size ≡ s.panel.size
    pub low : f < s.panel.size

  pub touched : (f : ℕ) → Keeps (Touched f) s.panel (panel.performed s.panel (touching f))
  unfolding to_front
  touched f = kept_performed (Touched f) turns s.panel (touching f) (λ a. record { fits = h.fits; size = refl; low = touchable s.panel f a })
    where
      turns : (q : Panel) (c : Item) (vs : List ℕ) → Touched f q → Touched f (reversed q c vs)
      turns q c vs t = record {
        fits = λ k. fits_alike (reversed q c vs).links q.links (reversed_alike q c vs) k (t.fits k);
        size = reversed_size q c vs ∙ t.size;
        low = t.low;
      }

  module _ (f : ℕ) (v : ℤ) (q : Panel) (k : Legal q) (t : Touched f q) (free : is_driven q f ≡ false) where
    legal_run : (r : Run) → evaluated q s.formulas (set s.values f v) ≡ r → r.fits ≡ true
        → LegalSheet (record { panel = q; formulas = s.formulas; values = r.values })
    unfolding plan_of is_looped
    legal_run r e fits =
        let ends : evaluated q s.formulas (set s.values f v) ≡ record { fits = true; values = r.values } =
        e ∙ ap (λ (b : Bool). record { fits = b; values = r.values }) fits in
        let formula : ℕ → Rule = formula_of s.formulas q.setter in
        let few = k.few in
        record {
          panel = k;
          fits = t.fits;
          formulas_length = h.formulas_length;
          values_length = run_length formula (setter_reads q) (plan_of q) (set s.values f v) r.values ends ∙ length-set s.values f v ∙ h.values_length;
          within = λ g. run_within formula (setter_reads q) (plan_of q) (set s.values f v) r.values ends g (start g (ℕ_discrete g f));
          past = λ g l.
              run_others formula (setter_reads q) (plan_of q) (set s.values f v) r.values ends g
              (all_map (λ x. x < q.size) (λ x. g ≢ x) (λ x m d. omega arith) (plan_of q) (order_low (setter_reads q) q.size few))
              ∙ get_or-set_other s.values f g v (pos 0) (λ d. omega (arith, t.low, t.size)) ∙ h.past g (omega (arith, t.size));
        }
      where
        start : (g : ℕ) → Dec (g ≡ f) → In g (plan_of q) ⊎ (outside (value_at (set s.values f v) g) ≡ false)
        start g (yes d) =
            inl (whole_in q.size (plan_of q) (order_whole (setter_reads q) q.size k.few k.loopless) g (omega (arith, t.low, t.size)))
        start g (no d) = inr (ap outside (get_or-set_other s.values f g v (pos 0) d) ∙ h.within g)

  legal_entered : (f : ℕ) (v : ℤ) → LegalSheet (performed s (entering f v)).sheet
  legal_entered f v = go (entering_cases s f v)
    where
      kept : is_refusal (panel.performed s.panel (touching f)).reply ≡ false → Keeps (Touched f) s.panel (panel.performed s.panel (touching f))
          → Touched f (panel.performed s.panel (touching f)).panel
      kept ok (inl (e, d)) = absurd (clash e ok)
      kept ok (inr (e, t)) = t

      go : Left s (performed s (entering f v)) ⊎ Stored s f v (performed s (entering f v)) → LegalSheet (performed s (entering f v)).sheet
      go (inl l) = subst LegalSheet (sym l.same) h
      go (inr a) =
          subst LegalSheet (ap (λ (x : Answer). x.sheet) (sym a.is))
          (legal_run f v _ (legal_performed s.panel (touching f) h.panel) (kept a.touched (touched f)) a.free _ refl a.fits)

  -- ---- kind 08

  legal_related : (id : ℕ) (formula : Rule) → LegalSheet (performed s (relating id formula)).sheet
  legal_related id formula = go (check_reply cs) refl (is_refusal (check_reply cs)) refl
    where
      cs : List Check
      cs = formula_checks s.panel id formula

      -- the new formula fits its link
      fits_here : Passes cs → (k : ℕ) → Dec (k ≡ id) → Fits (formula_at (with_formula s.formulas id formula) k) (link_at s.panel.links k)
      fits_here (o, (n, (past, (u, (a, z))))) k (yes d) =
          let new : formula_at (with_formula s.formulas id formula) k ≡ formula =
          ap (λ (i : ℕ). formula_at (with_formula s.formulas id formula) i) d
          ∙ get_or-set_same s.formulas id formula None (omega (arith, ltb-false 127 id n, h.formulas_length)) in
          inr (
            ap (λ (i : ℕ). (link_at s.panel.links i).used) d ∙ not-false _ u,
            ap (λ (x : Rule). accepted x (link_at s.panel.links k).covered) new
                ∙ ap (λ (i : ℕ). accepted formula (link_at s.panel.links i).covered) d ∙ not-false _ a,
          )
      fits_here passes k (no d) =
          subst (λ (x : Rule). Fits x (link_at s.panel.links k))
          (sym (get_or-set_other s.formulas id k formula None d)) (h.fits k)

      go : (reply : List ℕ) → check_reply cs ≡ reply → (b : Bool) → is_refusal reply ≡ b → LegalSheet (related s id formula reply).sheet
      go reply e true t = rw t h
      go reply e false t = rw t (record {
        panel = h.panel;
        fits = λ k. fits_here (reply_passes cs (rw e t)) k (ℕ_discrete k id);
        formulas_length = length-set s.formulas id formula ∙ h.formulas_length;
        values_length = h.values_length;
        within = h.within;
        past = h.past;
      })

  pub legal_sheet : (c : Command) → LegalSheet (performed s c).sheet
  legal_sheet (solving c) = legal_solved c
  legal_sheet (entering f v) = legal_entered f v
  legal_sheet (relating id formula) = legal_related id formula

-- an unopened sheet has no formula
pub blank_none : (p : Panel) (k : ℕ) → formula_at (blank p).formulas k ≡ None
blank_none p k = go (dec_lt k 128)
  where
    go : Dec (k < 128) → formula_at (blank p).formulas k ≡ None
    go (yes l) = get_or-replicate 128 k None None l
    go (no l) = get_or-eq_default (blank p).formulas None {n = k} (omega (arith, length-replicate {A = Rule} 128 None))

pub legal_blank : (p : Panel) → Legal p → LegalSheet (blank p)
legal_blank p h = record {
  panel = h;
  fits = λ k. inl (blank_none p k);
  formulas_length = length-replicate {A = Rule} 128 None;
  values_length = length-replicate 64 (pos 0);
  within = λ f. ap outside (zero f (dec_lt f 64));
  past = λ f l. zero f (dec_lt f 64);
}
  where
    zero : (f : ℕ) → Dec (f < 64) → value_at (blank p).values f ≡ pos 0
    zero f (yes l) = get_or-replicate 64 f (pos 0) (pos 0) l
    zero f (no l) = get_or-eq_default (blank p).values (pos 0) {n = f} (omega (arith, length-replicate 64 (pos 0)))
