-- The step of a line, by its command. Assumes nothing.
use mathlib.Core.Path.{◌≡◌, refl, sym, ap, ap₂, ◌∙◌, subst}
use mathlib.Core.Bool.{Bool, true, false, cond}
use mathlib.Core.Logic.{◌⊎◌, inl, inr, ⊎_elim}
use mathlib.Core.List.{List, [], ◌∷◌, ◌++◌, append-nil}
use Prim.Native.Nat.{ℕ, ◌+◌, ◌%◌, ◌≤◌}
use native.Mathlib.Nat.{mod-eq_of_lt}
use native.Mathlib.Omega.{arith}
use lib.ListN.{length, take, drop, take-append-drop}
use borrow.Author.Tests.{ltb-false, eq-eqb}
use lib.Dec.{eqb}
use lib.Seq.{set-get_or, sets-eq, length-sets, take_at}
use Rattle.fieldset.proofs.Numbers.{clash}
use Rattle.panel.specs.declared.Link.{Link}
use Rattle.panel.specs.declared.Panel.{Panel}
use Rattle.panel.specs.declared.Refusal.{Refusal}
use Rattle.panel.specs.Answers.{Reply}
use Rattle.std.specs.Prelude.{Err, None}
use Rattle.panel.specs.declared.Step.{Step}
use Rattle.panel.specs.Items.{link_at}
use Rattle.panel.specs.Answers.{reply_bytes, plan_rest, rows_length, is_refusal}
use Rattle.panel.specs.Commands as panel
use Rattle.panel.specs.Commands.{planning, check_reply}
use Rattle.panel.specs.Outcomes.{unchanged, Takes, counted, redrawn_by, step_reply, Decides, Plans}
use Rattle.panel.proofs.Outcomes.{takes_size}
use Rattle.panel.proofs.Moved.{counted_still}
use Rattle.planning.proofs.Replies.{plan_keeps}
use Rattle.formulas.specs.Formulas.{Rule}
use Rattle.sheet.specs.declared.Sheet.{Sheet}
use Rattle.sheet.specs.Sheets.{formula_at, with_formula}
use Rattle.sheet.specs.Commands.{solving, formulas_after, formula_checks, performed}
use Rattle.sheet.proofs.Legal.{reply_passes}
use Rattle.frames.specs.declared.Command.{Command}
use Rattle.frames.specs.declared.Command.TheVariants.{Open, Add, Remove, Touch, Plan, Change, Enter, Relate, Refused}
use Rattle.frames.specs.declared.Line.{Line}
use Rattle.frames.specs.Texts.{Answered}
use Rattle.frames.specs.Frames.{formula_in, command_bytes, number_of, answer_to, command_answer}
use Rattle.frames.specs.Reading.{tail_of, LineRead}
use Rattle.frames.proofs.Reading.{long_link, read_short, tail_reaches}
use Rattle.replies.specs.Replies.{rest_of}
use Rattle.deciding.specs.Lines.{Framed, formula_given, sets_formula, AnswerRest, LineStep, TouchStep, DecidedLine}

-- ---- formulas

-- the formula of a number, put where it stands
pub formula_kept : (formulas : List Rule) (k : ℕ) → with_formula formulas k (formula_at formulas k) ≡ formulas
formula_kept formulas k = set-get_or formulas k None

-- ---- tags, as the last arm of a match tells them

abbrev pub OneOf : List ℕ → ℕ → Type 0
OneOf [] tag = ⊥
OneOf (a ∷ []) tag = tag ≡ a
OneOf (a ∷ b ∷ cs) tag = (tag ≡ a) ⊎ OneOf (b ∷ cs) tag

abbrev is_among : ℕ → List ℕ → Bool
is_among tag [] = false
is_among tag (a ∷ cs) = cond (eqb tag a) true (is_among tag cs)

-- a tag that is none of a list
pub not_among : (tag : ℕ) (tags : List ℕ) → is_among tag tags ≡ false → OneOf tags tag → ⊥
not_among tag [] e h = h
not_among tag (a ∷ []) e h = clash (rw (eq-eqb tag a h) refl) e
not_among tag (a ∷ b ∷ cs) e (inl h) = clash (rw (eq-eqb tag a h) refl) e
not_among tag (a ∷ b ∷ cs) e (inr h) = go (eqb tag a) e (not_among tag (b ∷ cs))
  where
    go : (x : Bool) → cond x true (is_among tag (b ∷ cs)) ≡ false → (is_among tag (b ∷ cs) ≡ false → OneOf (b ∷ cs) tag → ⊥) → ⊥
    go true e ih = clash refl e
    go false e ih = ih e h

-- ---- what the commands do, by their tags

-- only a removal, a change and a formula that is given change one
pub given_kept : (c : Command) (tail : List ℕ) (covered : ℕ) (old : Rule) → sets_formula c ≡ false → old ≡ formula_given c tail covered old
given_kept (Open n) tail covered old h = refl
given_kept (Add id level) tail covered old h = refl
given_kept (Remove id) tail covered old h = absurd (clash refl h)
given_kept (Touch f) tail covered old h = refl
given_kept Plan tail covered old h = refl
given_kept (Change id level) tail covered old h = absurd (clash refl h)
given_kept (Enter f b) tail covered old h = refl
given_kept (Relate id form) tail covered old h = absurd (clash refl h)
given_kept (Refused x) tail covered old h = refl

-- the formulas after a command: a refusal leaves them
pub formula_after_lem : (formulas : List Rule) (k : ℕ) (given : Rule) (after : List Rule) (b : Bool) → (b ≡ false → with_formula formulas k given ≡ after)
    → with_formula formulas k (cond b (formula_at formulas k) given) ≡ cond b formulas after
formula_after_lem formulas k given after true h = formula_kept formulas k
formula_after_lem formulas k given after false h = h refl

-- ---- steps

module _ (s : Sheet) (k : ℕ) (tail path rows : List ℕ) where
  -- a command of the panel, whose reply has no rows
  pub solved_replied : (command : Command) (c : panel.Command) (r : Reply)
      → command_answer s command tail ≡ answer_to (performed s (solving c)) → rest_of command r ≡ 0
      → (is_refusal (panel.performed s.panel c).reply ≡ false
      → with_formula s.formulas k (formula_given command tail (link_at s.panel.links k).covered (formula_at s.formulas k)) ≡ formulas_after s c)
      → reply_bytes r ≡ (panel.performed s.panel c).reply → AnswerRest s k command tail rows s.values r
  solved_replied command c r e z given told =
      let gives : Rule = formula_given command tail (link_at s.panel.links k).covered (formula_at s.formulas k) in
      record {
        formulas =
            ap (λ (b : List ℕ). with_formula s.formulas k (cond (is_refusal b) (formula_at s.formulas k) gives)) told
            ∙ formula_after_lem s.formulas k gives (formulas_after s c) (is_refusal (panel.performed s.panel c).reply) given
            ∙ ap (λ (a : Answered Sheet). a.state.formulas) (sym e);
        values = ap (λ (a : Answered Sheet). a.state.values) (sym e);
        reply = rw z (append-nil (reply_bytes r)) ∙ told ∙ ap (λ (a : Answered Sheet). a.reply) (sym e);
        rest = omega arith;
      }

  pub solved_step : length rows ≡ rows_length → (command : Command) (c : panel.Command) (step : Step)
      → command_answer s command tail ≡ answer_to (performed s (solving c)) → ((r : Reply) → rest_of command r ≡ 0)
      → (is_refusal (panel.performed s.panel c).reply ≡ false
      → with_formula s.formulas k (formula_given command tail (link_at s.panel.links k).covered (formula_at s.formulas k)) ≡ formulas_after s c)
      → Decides s.panel k c path step → LineStep s k command tail path rows s.values step
  solved_step full command c step e z given d = record {
    takes = subst (λ (a : Answered Sheet). Takes s.panel k path step a.state.panel) (sym e) d.takes;
    replied =
        solved_replied command c (step_reply step (command_answer s command tail).state.panel) e (z _) given
        (ap (λ (a : Answered Sheet). reply_bytes (step_reply step a.state.panel)) e ∙ d.reply);
    rows_full = full;
  }

  -- where nothing is redrawn
  still : (command : Command) (r : Reply) → AnswerRest s k command tail rows s.values r
      → AnswerRest s k command tail rows s.values (counted r (redrawn_by 0 0 (command_answer s command tail).state.panel))
  still command r a = subst (AnswerRest s k command tail rows s.values) (sym (counted_still r (command_answer s command tail).state.panel)) a

  module _ (long : length path ≡ 64) (named : Link) (same : named ≡ link_at s.panel.links k) where
    pub refused_step : length rows ≡ rows_length → (x : Refusal)
        → LineStep s k (Refused x) tail path rows s.values (unchanged s.panel.size s.panel.place named (Err x))
    refused_step full x = record {
      takes = takes_size s.panel k named (Err x) same path long s.panel.size s.panel refl;
      replied = still (Refused x) (Err x) (record {
        formulas = formula_kept s.formulas k;
        values = refl;
        reply = append-nil (reply_bytes (Err x));
        rest = omega arith;
      });
      rows_full = full;
    }

    -- a formula, which is put under the remainder of its number
    pub relate_step : length rows ≡ rows_length → (id form : ℕ) (r : Reply) → reply_bytes r ≡ check_reply (formula_checks s.panel id (formula_in (form ∷ tail)))
        → k ≡ id % 128 → LineStep s k (Relate id form) tail path rows s.values (unchanged s.panel.size s.panel.place named r)
    relate_step full id form r told number =
        let formula : Rule = formula_in (form ∷ tail) in
        let reply : List ℕ = check_reply (formula_checks s.panel id formula) in
        record {
          takes = takes_size s.panel k named r same path long s.panel.size s.panel refl;
          replied = still (Relate id form) r (record {
            formulas =
                ap (λ (b : List ℕ). with_formula s.formulas k (cond (is_refusal b) (formula_at s.formulas k) formula)) told
                ∙ formula_after_lem s.formulas k formula (with_formula s.formulas id formula) (is_refusal reply)
                (λ e. ap (λ (i : ℕ). with_formula s.formulas i formula)
                (number ∙ mod-eq_of_lt (omega (arith, ltb-false 127 id (reply_passes (formula_checks s.panel id formula) e).1.0))));
            values = refl;
            reply = append-nil (reply_bytes r) ∙ told;
            rest = omega arith;
          });
          rows_full = full;
        }

    pub plan_step_lem : (r : Reply) (before : List ℕ) → length before ≡ rows_length → Plans s.panel r before rows
        → LineStep s k Plan tail path rows s.values (unchanged s.panel.size s.panel.place named r)
    plan_step_lem r before size g =
        let whole : List ℕ = (panel.performed s.panel planning).reply in
        let fits : 0 + length (drop 2 whole) ≤ length before = omega (arith, g.length_rows, g.few) in
        record {
          takes = takes_size s.panel k named r same path long s.panel.size (panel.performed s.panel planning).panel (sym (plan_keeps s.panel));
          replied = still Plan r (record {
            formulas = either (is_refusal (reply_bytes r)) (is_refusal whole);
            values = refl;
            reply =
                ap₂ (λ (a : List ℕ) (b : List ℕ). a ++ b) g.reply
                (ap (take (plan_rest r)) (g.rows ∙ sets-eq (drop 2 whole) before 0 fits) ∙ take_at (drop 2 whole) (drop (0 + length (drop 2 whole)) before) (plan_rest r) g.length_rows)
                ∙ take-append-drop 2 whole;
            rest = g.few;
          });
          rows_full = ap length g.rows ∙ simp length-sets size;
        }
      where
        -- a plan changes no formula
        either : (b c : Bool) → with_formula s.formulas k (cond b (formula_at s.formulas k) (formula_at s.formulas k)) ≡ cond c s.formulas s.formulas
        either true true = formula_kept s.formulas k
        either true false = formula_kept s.formulas k
        either false true = formula_kept s.formulas k
        either false false = formula_kept s.formulas k

pub framed : (s : List ℕ) (r : Line) → LineRead s r → Framed r
framed s r h = record {
  short = read_short s r h;
  reaches = λ id level. ⊎_elim (λ e. tail_reaches s r 0x02 id level (omega arith) h (ap (λ (c : Command). command_bytes c (tail_of r)) e) (long_link 0x02 (inl refl) level))
      (λ e. tail_reaches s r 0x06 id level (omega arith) h (ap (λ (c : Command). command_bytes c (tail_of r)) e) (long_link 0x06 (inr refl) level));
}

pub entered_touch : (p : Panel) (named : Link) (tail path rows : List ℕ) (s : Step) (c : Command) (f b : ℕ) → c ≡ Enter f b
    → DecidedLine p (number_of c) named tail path rows s c → TouchStep p 0 f path rows s
entered_touch p named tail path rows s c f b e d = subst (λ (x : Command). DecidedLine p (number_of x) named tail path rows s x) e d
