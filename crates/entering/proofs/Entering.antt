-- What entering a value comes to, by what the touch gave: a refusal of the touch is the command's (`enter_refused`); so is a field that a link still
-- sets (`enter_driven`). Else the plan of the panel after the touch is run over its tables (`table_run`, `ready`), and the result decides
-- (`enter_out`, `enter_done`). Assumes nothing.
use Prim.Native.Nat.{ℕ, ◌<◌}
use mathlib.Core.Path.{◌≡◌, refl, sym, ap, ap₂, subst, ◌∙◌}
use mathlib.Core.Bool.{Bool, true, false}
use mathlib.Core.List.{List, [], ◌∷◌}
use mathlib.Core.Logic.{inl, inr}
use lib.Dec.{ltb}
use lib.IntN.{ℤ}
use lib.ListN.{set}
use Rattle.fieldset.specs.Tables.{at}
use Rattle.fieldset.specs.Fields.{member, size}
use Rattle.fieldset.proofs.Numbers.{clash}
use Rattle.fieldset.proofs.Lists.{all_map}
use Rattle.ordering.specs.Order.{order}
use Rattle.ordering.proofs.Plan.{order_cong, order_low}
use Rattle.panel.specs.declared.Link.{Link}
use Rattle.panel.specs.declared.Panel.{Panel}
use Rattle.panel.specs.declared.Refusal.{Refusal}
use Rattle.panel.specs.declared.Refusal.TheVariants.{OutOfRange, FieldDriven}
use Rattle.panel.specs.Answers.{Reply}
use Rattle.std.specs.Prelude.{Ok, Err}
use Rattle.panel.specs.declared.Step.{Step}
use Rattle.panel.specs.Items.{link_at}
use Rattle.panel.specs.Answers as answers
use Rattle.panel.specs.Answers.{refusal_bytes, is_refusal, reply_bytes}
use Rattle.panel.specs.Moved as panels
use Rattle.panel.specs.Solution.{setter_reads, plan_of}
use Rattle.panel.specs.Commands as panel
use Rattle.panel.specs.Commands.{touching}
use Rattle.panel.specs.Outcomes.{unchanged, taken, Takes, counted, redrawn_by, Decides}
use Rattle.panel.specs.Legal.{Legal}
use Rattle.panel.proofs.Outcomes.{takes_size}
use Rattle.panel.proofs.Moved.{counted_none}
use Rattle.panel.proofs.Performed.{Keeps, legal_performed}
use Rattle.tables.specs.Tables.{Tabled}
use Rattle.tables.proofs.Agreement.{panel_among, panel_loopless, panel_reads}
use Rattle.taking.proofs.Taking.{Taken}
use Rattle.values.specs.Changes.{revalued}
use Rattle.values.proofs.Changes.{revalued_same}
use Rattle.formulas.specs.Formulas.{Rule, formula_of, Usable}
use Rattle.evaluation.specs.Runs.{Run, run, Ready, Stored}
use Rattle.evaluation.proofs.Settled.{held_usable}
use Rattle.evaluation.proofs.Planned.{run_cong}
use Rattle.sheet.specs.declared.Sheet.{Sheet}
use Rattle.sheet.specs.Sheets.{sheet_of, evaluated}
use Rattle.sheet.specs.Commands.{Answer, is_driven, entering, refused, redrawn, renewed, valued, entered, performed}
use Rattle.sheet.specs.Legal.{LegalSheet}
use Rattle.sheet.proofs.Legal.{Touched, touched}
use Rattle.sheet.proofs.Held.{setter_held}
use Rattle.entering.specs.Entered.{SettersOf, valued_step, Entered}

-- ---- the run over the tables of a panel

module _ {p : Panel} (h : Legal p) {levels others reads : List ℕ} (t : Tabled p levels others reads) where
  reads_same : (f i : ℕ) → f < p.size → i < 64 → member (at reads f) i ≡ member (setter_reads p f) i
  reads_same f i l k = ap (λ (m : ℕ). member m i) (panel_reads p h levels others reads t f l)

  -- it is the run over the panel's plan
  table_run : (formulas : List Rule) (v : List ℤ)
      → run (formula_of formulas p.setter) (at reads) (order (at reads) p.size) v ≡ evaluated p formulas v
  unfolding plan_of
  table_run formulas v =
      run_cong (formula_of formulas p.setter) (at reads) (setter_reads p) (order (at reads) p.size) v
      (all_map (λ f. f < p.size) (λ f. at reads f ≡ setter_reads p f) (panel_reads p h levels others reads t)
      (order (at reads) p.size) (order_low (at reads) p.size h.few))
      ∙ ap (λ (fs : List ℕ). run (formula_of formulas p.setter) (setter_reads p) fs v) (order_cong (at reads) (setter_reads p) p.size reads_same)

  -- what it needs
  ready : (formulas : List Rule) → ((f : ℕ) → f < p.size → Usable (formula_of formulas p.setter f) (setter_reads p f))
      → Ready (formula_of formulas p.setter) reads p.size
  ready formulas usable = record {
    few = h.few;
    among = panel_among p h levels others reads t;
    loopless = panel_loopless p h levels others reads t;
    usable = λ f l. rw (panel_reads p h levels others reads t f l) (usable f l);
  }

-- ---- the steps of the touch and of the command

-- the values that change make no difference to the panel after a step
takes_valued : {p after : Panel} {k : ℕ} {path : List ℕ} {step : Step} → Takes p k path step after → (m : ℕ) → Takes p k path (valued_step step m) after
unfolding taken
takes_valued t m = record {
  panel = t.panel;
  changed = t.changed;
  still = t.still;
  path_of = t.path_of;
  freed_field = t.freed_field;
  freed_turns = t.freed_turns;
  keeps = t.keeps;
}

-- ---- the setters after the touch

pub setters_by : {after q : Panel} {levels others reads : List ℕ} → Taken after q levels others reads → SettersOf after q.setter reads
setters_by {levels = levels} {others} {reads} t = record {
  sets = ap (λ (p : Panel). p.setter) t.panel;
  levels = levels;
  others = others;
  tabled = subst (λ (p : Panel). Tabled p levels others reads) t.panel t.tabled;
}

-- ---- the command

module _ (s : Sheet) (h : LegalSheet s) (f : ℕ) (v : ℤ) where
  -- what the touch gives
  abbrev gave : answers.Answer
  gave = panel.performed s.panel (touching f)

  -- a refusal leaves the sheet
  left : (touch : Step) (named : Link) → named ≡ link_at s.panel.links 0 → (x : Refusal) → performed s (entering f v) ≡ refused s x
      → Entered s f v touch s.values (unchanged s.panel.size s.panel.place named (Err x))
  left touch named same x e = record {
    takes = λ path d.
        takes_size s.panel 0 named (Err x) same path d.takes.path_of.full s.panel.size _ (ap (λ (a : Answer). a.sheet.panel) (sym e));
    reply = ap (λ (a : Answer). a.reply) (sym e);
    uncounted = tt;
    revalued_are = sym (revalued_same s.panel.size s.values);
    values = ap (λ (a : Answer). a.sheet.values) (sym e);
  }

  module _ (step : Step) (way : List ℕ) (touches : Decides s.panel 0 (touching f) way step) where
    abbrev shown : Reply → List ℕ
    shown r = reply_bytes (counted r (redrawn_by step.changed step.revalued gave.panel))

    pub enter_refused : (x : Refusal) → step.reply ≡ Err x → Entered s f v step s.values step
    unfolding entered
    enter_refused x e =
        let told : 0xFF ∷ refusal_bytes x ≡ gave.reply = ap shown (sym e) ∙ touches.reply in
        let refusal : is_refusal gave.reply ≡ true = ap is_refusal (sym told) in
        let is : performed s (entering f v) ≡ record { sheet = s; reply = gave.reply } = rw refusal refl in
        record {
          takes = λ path d.
              subst (λ (q : Panel). Takes s.panel 0 path step q) (same refusal (touched s h f) ∙ ap (λ (a : Answer). a.sheet.panel) (sym is)) d.takes;
          reply = rw e (told ∙ ap (λ (a : Answer). a.reply) (sym is));
          uncounted = touches.uncounted;
          revalued_are = touches.unvalued ∙ sym (revalued_same s.panel.size s.values);
          values = ap (λ (a : Answer). a.sheet.values) (sym is);
        }
      where
        same : is_refusal gave.reply ≡ true → Keeps (Touched s h f) s.panel gave → gave.panel ≡ s.panel
        same r (inl (e, q)) = q
        same r (inr (e, k)) = absurd (clash r e)

    module _ (m : ℕ) (ok : step.reply ≡ Ok m) where
      accepts : is_refusal gave.reply ≡ false
      accepts = ap is_refusal (sym (ap shown (sym ok) ∙ touches.reply))

      pub kept : Touched s h f gave.panel
      kept = go (touched s h f)
        where
          go : Keeps (Touched s h f) s.panel gave → Touched s h f gave.panel
          go (inl (e, q)) = absurd (clash e accepts)
          go (inr (e, k)) = k

      module _ {setter reads : List ℕ} (t : SettersOf gave.panel setter reads) (named : Link) (same : named ≡ link_at s.panel.links 0) where
        abbrev q : Panel
        q = gave.panel

        legal : Legal q
        legal = legal_performed s.panel (touching f) h.panel

        driven_is : is_driven q f ≡ ltb (at setter f) 128
        driven_is = ap (λ (l : List ℕ). ltb (at l f) 128) (sym t.sets)

        pub enter_driven : ltb (at setter f) 128 ≡ true → Entered s f v step s.values (unchanged s.panel.size s.panel.place named (Err FieldDriven))
        unfolding entered
        enter_driven e = left step named same FieldDriven (rw (accepts, driven_is ∙ e) refl)

        -- every formula can be computed with
        pub enter_ready : Ready (formula_of s.formulas setter) reads s.panel.size
        enter_ready =
            rw t.sets
            (subst (Ready (formula_of s.formulas q.setter) reads) kept.size
            (ready legal t.tabled s.formulas
            (λ g l. held_usable (formula_of s.formulas q.setter g) (setter_held q s.formulas legal kept.fits g l))))

        module _ (free : ltb (at setter f) 128 ≡ false) {fits : Bool} {after : List ℤ}
            (st : Stored (run (formula_of s.formulas setter) (at reads) (order (at reads) s.panel.size) (set s.values f v)) s.values fits after) where
          abbrev result : Run
          result = evaluated q s.formulas (set s.values f v)

          ran : run (formula_of s.formulas setter) (at reads) (order (at reads) s.panel.size) (set s.values f v) ≡ result
          ran =
              ap₂ (λ (l : List ℕ) (n : ℕ). run (formula_of s.formulas l) (at reads) (order (at reads) n) (set s.values f v)) t.sets (sym kept.size)
              ∙ table_run legal t.tabled s.formulas (set s.values f v)

          answer : performed s (entering f v) ≡ valued s gave.panel result
          unfolding entered
          answer = rw (accepts, driven_is ∙ free) refl

          pub enter_out : fits ≡ false → Entered s f v step after (unchanged s.panel.size s.panel.place named (Err OutOfRange))
          enter_out e =
              let not_fits : result.fits ≡ false = ap (λ (r : Run). r.fits) (sym ran) ∙ sym st.answer ∙ e in
              let was : after ≡ s.values = st.left ∙ rw (sym st.answer ∙ e) refl in
              subst (λ (w : List ℤ). Entered s f v step w (unchanged s.panel.size s.panel.place named (Err OutOfRange))) (sym was)
              (left step named same OutOfRange (answer ∙ rw not_fits refl))

          pub enter_done : fits ≡ true → (m : ℕ) → m ≡ revalued s.panel.size s.values after → Entered s f v step after (valued_step step m)
          unfolding redrawn_by redrawn panels.redrawn
          enter_done e m changes =
              let all_fits : result.fits ≡ true = ap (λ (r : Run). r.fits) (sym ran) ∙ sym st.answer ∙ e in
              let t : Sheet = sheet_of gave.panel s.formulas result.values in
              let is : performed s (entering f v) ≡ renewed s t = answer ∙ rw all_fits refl in
              let new : after ≡ result.values = st.left ∙ rw (sym st.answer ∙ e) (ap (λ (r : Run). r.values) ran) in
              let set : m ≡ revalued gave.panel.size s.values result.values =
              changes ∙ ap₂ (λ (n : ℕ) (w : List ℤ). revalued n s.values w) (sym kept.size) new in
              record {
                takes = λ path d. subst (λ (p : Panel). Takes s.panel 0 path (valued_step step m) p) (ap (λ (a : Answer). a.sheet.panel) (sym is)) (takes_valued d.takes m);
                reply =
                    counted_none _
                    ∙ ap (λ (x : ℕ). 0x00 ∷ size x ∷ [])
                    (ap (λ (a : Answer). redrawn_by step.changed m a.sheet.panel) is
                    ∙ ap₂ (λ (c : ℕ) (m : ℕ). redrawn_by c m gave.panel) touches.takes.changed set)
                    ∙ ap (λ (a : Answer). a.reply) (sym is);
                uncounted = refl;
                revalued_are = changes;
                values = new ∙ ap (λ (a : Answer). a.sheet.values) (sym is);
              }
