-- What one line is answered: the answer to a command is the answer to the line with its bytes, and is legal, both by cases on the
-- command; so the step of a line, once it is taken, does what the line asks (`did`). Assumes nothing.
use mathlib.Core.Path.{◌≡◌, refl, sym, ap, ap₂, subst, ◌∙◌}
use mathlib.Core.Bool.{Bool, true, false, cond}
use mathlib.Core.List.{List, [], ◌∷◌, append-nil}
use mathlib.Core.Logic.{inl, inr}
use Prim.Native.Nat.{ℕ, ◌%◌, ◌<◌}
use native.Mathlib.Nat.{mod-eq_of_lt}
use native.Mathlib.Decide.{dec_lt}
use native.Mathlib.Omega.{arith}
use lib.Dec.{eqb}
use lib.ListN.{length}
use lib.IntN.{ℤ}
use Rattle.panel.specs.declared.Link.{Link}
use Rattle.panel.specs.declared.Panel.{Panel}
use Rattle.panel.specs.Answers.{Reply}
use Rattle.std.specs.Prelude.{Result, Ok, None}
use Rattle.panel.specs.declared.Refusal.{Refusal}
use Rattle.panel.specs.declared.Step.{Step}
use Rattle.panel.specs.Items.{link_at}
use Rattle.panel.specs.Answers.{is_refusal, reply_bytes, rows_length}
use Rattle.panel.specs.Moved.{turned}
use Rattle.panel.specs.Outcomes.{taken, Takes, counted, redrawn_by, step_reply, Decides}
use Rattle.panel.specs.Legal.{Legal}
use Rattle.panel.specs.Commands.{opening, adding, removing, touching, planning, changing, covered_in, performed}
use Rattle.panel.proofs.Checks.{changeable}
use Rattle.panel.proofs.Performed.{removed_number, changed_passes, legal_performed}
use Rattle.panel.proofs.Outcomes.{takes_size}
use Rattle.tables.specs.declared.Tables.{Tables}
use Rattle.tables.specs.Tables.{TablesOf, Tabled}
use Rattle.redrawing.proofs.Redrawing.{Sizes}
use Rattle.values.specs.Words.{value_of}
use Rattle.formulas.specs.Formulas.{Rule}
use Rattle.sheet.specs.declared.Sheet.{Sheet}
use Rattle.sheet.specs.Sheets.{sheet_of, formula_at, with_formula}
use Rattle.sheet.specs.Commands.{solving, entering, relating}
use Rattle.sheet.specs.Legal.{LegalSheet}
use Rattle.sheet.proofs.Legal.{legal_sheet, entered_formulas}
use Rattle.sheet.proofs.Sizes.{sheet_size}
use Rattle.entering.specs.Entered.{SettersOf, Entered}
use Rattle.frames.specs.declared.Command.{Command}
use Rattle.frames.specs.declared.Command.TheVariants.{Open, Add, Remove, Touch, Plan, Change, Enter, Relate, Refused}
use Rattle.frames.specs.Frames.{frame_of, word_of, formula_in, command_bytes, command_of, number_of, answered, command_answer, line_answer}
use Rattle.replies.specs.Replies.{whole_reply}
use Rattle.replies.proofs.Replies.{reply_short}
use Rattle.deciding.specs.Lines.{formula_after, sets_formula, AnswerRest, DecidedLine, ChangedLine}
use Rattle.deciding.proofs.Arms.{OneOf, not_among, formula_kept, given_kept, solved_replied, solved_step}
use Rattle.removing.specs.Scans.{scan_count}
use Rattle.changing.specs.Changed.{change_count, moved_by, reply_by, Changes}
use Rattle.frames.specs.contracts.Command.{the_type}
use denote.Enum.Declared.{tag_of}
use Rattle.answering.specs.Scans.{command_scan, line_scan}
use Rattle.answering.proofs.Going.{Did}

-- what its command is answered is what a line is answered
line_answer_lem : (q : Sheet) (line : List ℕ) (k : Command) (fields : List ℕ) → command_bytes k fields ≡ frame_of line → command_answer q k fields ≡ line_answer q line
unfolding line_answer command_of
line_answer_lem q line k fields read = go k ∙ ap (λ (x : List ℕ). answered q x (command_of x)) read where
  go : (c : Command) → command_answer q c fields ≡ answered q (command_bytes c fields) (command_of (command_bytes c fields))
  go (Open n) = refl
  go (Add id level) = refl
  go (Remove id) = refl
  go (Touch f) = refl
  go Plan = refl
  go (Change id level) = refl
  go (Enter f b) = refl
  go (Relate id form) = refl
  go (Refused r) = refl

pub removal_no_change : {id i level : ℕ} → Remove id ≡ Change i level → ⊥
removal_no_change e = let z : ◌≡◌ {A = ℕ} 2 5 = ap (tag_of the_type) e in omega arith

-- the count after its command is that after a line: a removal's, and for another command as it was
pub removed_scan : (n : ℕ) (q : Sheet) (line : List ℕ) (k : Command) (fields : List ℕ) → command_bytes k fields ≡ frame_of line → (id : ℕ) → k ≡ Remove id
    → scan_count n q.panel id ≡ line_scan n q line
unfolding line_scan command_of
removed_scan n q line k fields read id e =
    ap (λ (x : List ℕ). command_scan n q.panel (command_of x)) (sym (ap (λ (c : Command). command_bytes c fields) e) ∙ read)

changed_scan : (n : ℕ) (q : Sheet) (line : List ℕ) (k : Command) (fields : List ℕ) → command_bytes k fields ≡ frame_of line → (id level : ℕ) → k ≡ Change id level
    → change_count n q.panel id level fields ≡ line_scan n q line
unfolding line_scan command_of
changed_scan n q line k fields read id level e =
    ap (λ (x : List ℕ). command_scan n q.panel (command_of x)) (sym (ap (λ (c : Command). command_bytes c fields) e) ∙ read)

pub no_scan : (n : ℕ) (q : Sheet) (line : List ℕ) (k : Command) (fields : List ℕ) → command_bytes k fields ≡ frame_of line
    → OneOf (0 ∷ 1 ∷ 3 ∷ 4 ∷ 5 ∷ 6 ∷ 7 ∷ 8 ∷ []) (tag_of the_type k) → OneOf (0 ∷ 1 ∷ 2 ∷ 3 ∷ 4 ∷ 6 ∷ 7 ∷ 8 ∷ []) (tag_of the_type k) → n ≡ line_scan n q line
unfolding line_scan command_of
no_scan n q line k fields read h g = go k h g ∙ ap (λ (x : List ℕ). command_scan n q.panel (command_of x)) read
  where
    go : (c : Command) → OneOf (0 ∷ 1 ∷ 3 ∷ 4 ∷ 5 ∷ 6 ∷ 7 ∷ 8 ∷ []) (tag_of the_type c) → OneOf (0 ∷ 1 ∷ 2 ∷ 3 ∷ 4 ∷ 6 ∷ 7 ∷ 8 ∷ []) (tag_of the_type c)
        → n ≡ command_scan n q.panel (command_of (command_bytes c fields))
    go (Open m) h g = refl
    go (Add id level) h g = refl
    go (Remove id) h g = absurd (not_among 2 (0 ∷ 1 ∷ 3 ∷ 4 ∷ 5 ∷ 6 ∷ 7 ∷ 8 ∷ []) refl h)
    go (Touch f) h g = refl
    go Plan h g = refl
    go (Change id level) h g = absurd (not_among 5 (0 ∷ 1 ∷ 2 ∷ 3 ∷ 4 ∷ 6 ∷ 7 ∷ 8 ∷ []) refl g)
    go (Enter f b) h g = refl
    go (Relate id form) h g = refl
    go (Refused r) h g = refl

pub answer_legal : (q : Sheet) (k : Command) (fields : List ℕ) → LegalSheet q → LegalSheet (command_answer q k fields).state
answer_legal q (Open n) fields h = legal_sheet q h (solving (opening n))
answer_legal q (Add id level) fields h = legal_sheet q h (solving (adding id level fields))
answer_legal q (Remove id) fields h = legal_sheet q h (solving (removing id))
answer_legal q (Touch f) fields h = legal_sheet q h (solving (touching f))
answer_legal q Plan fields h = legal_sheet q h (solving planning)
answer_legal q (Change id level) fields h = legal_sheet q h (solving (changing id level fields))
answer_legal q (Enter f b) fields h = legal_sheet q h (entering f (value_of (word_of (b ∷ fields))))
answer_legal q (Relate id form) fields h = legal_sheet q h (relating id (formula_in (form ∷ fields)))
answer_legal q (Refused r) fields h = h

-- an open panel keeps its size
pub answer_sizes : (q : Sheet) (k : Command) (fields : List ℕ) → Sizes q.panel (command_answer q k fields).state.panel
answer_sizes q k fields = go (dec_lt 0 q.panel.size) k
  where
    go : Dec (0 < q.panel.size) → (k : Command) → Sizes q.panel (command_answer q k fields).state.panel
    go (no n) k = inr (omega arith)
    go (yes o) (Open n) = inl (sheet_size q (solving (opening n)) o)
    go (yes o) (Add id level) = inl (sheet_size q (solving (adding id level fields)) o)
    go (yes o) (Remove id) = inl (sheet_size q (solving (removing id)) o)
    go (yes o) (Touch f) = inl (sheet_size q (solving (touching f)) o)
    go (yes o) Plan = inl (sheet_size q (solving planning) o)
    go (yes o) (Change id level) = inl (sheet_size q (solving (changing id level fields)) o)
    go (yes o) (Enter f b) = inl (sheet_size q (entering f (value_of (word_of (b ∷ fields)))) o)
    go (yes o) (Relate id form) = inl (sheet_size q (relating id (formula_in (form ∷ fields))) o)
    go (yes o) (Refused r) = inl refl

-- ---- the step that is decided

-- the panel after it: a change is carried out later
abbrev pub step_panel : Sheet → List ℕ → Command → Panel
step_panel s tail (Open n) = (command_answer s (Open n) tail).state.panel
step_panel s tail (Add id level) = (command_answer s (Add id level) tail).state.panel
step_panel s tail (Remove id) = (command_answer s (Remove id) tail).state.panel
step_panel s tail (Touch f) = (command_answer s (Touch f) tail).state.panel
step_panel s tail Plan = (command_answer s Plan tail).state.panel
step_panel s tail (Change id level) = s.panel
step_panel s tail (Enter f b) = (command_answer s (Enter f b) tail).state.panel
step_panel s tail (Relate id form) = (command_answer s (Relate id form) tail).state.panel
step_panel s tail (Refused x) = (command_answer s (Refused x) tail).state.panel

-- what else is known then: the rest of the answer, and of a change that no value has changed
abbrev StepRest : Sheet → ℕ → List ℕ → List ℕ → List ℤ → Step → Command → Type 0
StepRest s k tail rows values step (Open n) = AnswerRest s k (Open n) tail rows values (step_reply step (step_panel s tail (Open n)))
StepRest s k tail rows values step (Add id level) = AnswerRest s k (Add id level) tail rows values (step_reply step (step_panel s tail (Add id level)))
StepRest s k tail rows values step (Remove id) = AnswerRest s k (Remove id) tail rows values (step_reply step (step_panel s tail (Remove id)))
StepRest s k tail rows values step (Touch f) = AnswerRest s k (Touch f) tail rows values (step_reply step (step_panel s tail (Touch f)))
StepRest s k tail rows values step Plan = AnswerRest s k Plan tail rows values (step_reply step (step_panel s tail Plan))
StepRest s k tail rows values step (Change id level) = (values ≡ s.values) × (step.revalued ≡ 0)
StepRest s k tail rows values step (Enter f b) = AnswerRest s k (Enter f b) tail rows values (step_reply step (step_panel s tail (Enter f b)))
StepRest s k tail rows values step (Relate id form) = AnswerRest s k (Relate id form) tail rows values (step_reply step (step_panel s tail (Relate id form)))
StepRest s k tail rows values step (Refused x) = AnswerRest s k (Refused x) tail rows values (step_reply step (step_panel s tail (Refused x)))

pub record Stepped (s : Sheet) (k : ℕ) (c : Command) (tail path rows : List ℕ) (values : List ℤ) (step : Step) : Type 0 where
  pub takes : Takes s.panel k path step (step_panel s tail c)
  pub rest : StepRest s k tail rows values step c
  pub rows_full : length rows ≡ rows_length

pub step_legal : (s : Sheet) (tail : List ℕ) (c : Command) → LegalSheet s → Legal (step_panel s tail c)
step_legal s tail (Open n) h = (answer_legal s (Open n) tail h).panel
step_legal s tail (Add id level) h = (answer_legal s (Add id level) tail h).panel
step_legal s tail (Remove id) h = (answer_legal s (Remove id) tail h).panel
step_legal s tail (Touch f) h = (answer_legal s (Touch f) tail h).panel
step_legal s tail Plan h = (answer_legal s Plan tail h).panel
step_legal s tail (Change id level) h = h.panel
step_legal s tail (Enter f b) h = (answer_legal s (Enter f b) tail h).panel
step_legal s tail (Relate id form) h = (answer_legal s (Relate id form) tail h).panel
step_legal s tail (Refused x) h = (answer_legal s (Refused x) tail h).panel

pub step_sizes : (s : Sheet) (tail : List ℕ) (c : Command) → Sizes s.panel (step_panel s tail c)
step_sizes s tail (Open n) = answer_sizes s (Open n) tail
step_sizes s tail (Add id level) = answer_sizes s (Add id level) tail
step_sizes s tail (Remove id) = answer_sizes s (Remove id) tail
step_sizes s tail (Touch f) = answer_sizes s (Touch f) tail
step_sizes s tail Plan = answer_sizes s Plan tail
step_sizes s tail (Change id level) = inl refl
step_sizes s tail (Enter f b) = answer_sizes s (Enter f b) tail
step_sizes s tail (Relate id form) = answer_sizes s (Relate id form) tail
step_sizes s tail (Refused x) = answer_sizes s (Refused x) tail

-- of a line that is no removal and enters no value
pub decided_stepped : (p : Panel) (k : ℕ) (named : Link) (tail path rows : List ℕ) (step : Step) (c : Command)
    → OneOf (0 ∷ 1 ∷ 3 ∷ 4 ∷ 5 ∷ 6 ∷ 7 ∷ 8 ∷ []) (tag_of the_type c) → OneOf (0 ∷ 1 ∷ 2 ∷ 3 ∷ 4 ∷ 5 ∷ 7 ∷ 8 ∷ []) (tag_of the_type c)
    → named ≡ link_at p.links k → DecidedLine p k named tail path rows step c → (formulas : List Rule) (values : List ℤ)
    → Stepped (sheet_of p formulas values) k c tail path rows values step
decided_stepped p k named tail path rows step (Open n) h g same d formulas values =
    let l = d formulas values in record { takes = l.takes; rest = l.replied; rows_full = l.rows_full }
decided_stepped p k named tail path rows step (Add id level) h g same d formulas values =
    let l = d formulas values in record { takes = l.takes; rest = l.replied; rows_full = l.rows_full }
decided_stepped p k named tail path rows step (Remove id) h g same d formulas values = absurd (not_among 2 (0 ∷ 1 ∷ 3 ∷ 4 ∷ 5 ∷ 6 ∷ 7 ∷ 8 ∷ []) refl h)
decided_stepped p k named tail path rows step (Touch f) h g same d formulas values =
    let l = d formulas values in record { takes = l.takes; rest = l.replied; rows_full = l.rows_full }
decided_stepped p k named tail path rows step Plan h g same d formulas values =
    let l = d formulas values in record { takes = l.takes; rest = l.replied; rows_full = l.rows_full }
decided_stepped p k named tail path rows step (Change id level) h g same d formulas values =
    record {
      takes = rw d.is (takes_size p k named (Ok 0) same path d.path_full p.size p refl);
      rest = (refl, ap (λ (s : Step). s.revalued) d.is);
      rows_full = d.rows_full;
    }
decided_stepped p k named tail path rows step (Enter f b) h g same d formulas values = absurd (not_among 6 (0 ∷ 1 ∷ 2 ∷ 3 ∷ 4 ∷ 5 ∷ 7 ∷ 8 ∷ []) refl g)
decided_stepped p k named tail path rows step (Relate id form) h g same d formulas values =
    let l = d formulas values in record { takes = l.takes; rest = l.replied; rows_full = l.rows_full }
decided_stepped p k named tail path rows step (Refused x) h g same d formulas values =
    let l = d formulas values in record { takes = l.takes; rest = l.replied; rows_full = l.rows_full }

-- ---- the steps that are decided beside the others

pub removed_step : (s : Sheet) (id : ℕ) (fields path rows : List ℕ) → length rows ≡ rows_length → (step : Step) → Decides s.panel (id % 128) (removing id) path step
    → Stepped s (id % 128) (Remove id) fields path rows s.values step
removed_step s id fields path rows full step d =
    let l = solved_step s (id % 128) fields path rows full (Remove id) (removing id) step refl (λ r. refl)
    (λ e. ap (λ (k : ℕ). with_formula s.formulas k None) (mod-eq_of_lt (removed_number s.panel id e))) d in
    record { takes = l.takes; rest = l.replied; rows_full = full }

-- the panel after the step of a touch
pub touch_taken : {p : Panel} {f : ℕ} {path : List ℕ} {step : Step} → Legal p → Decides p 0 (touching f) path step
    → Legal (taken p 0 step path) × Takes p 0 path step (taken p 0 step path)
touch_taken {p} {f} {path} {step} h d =
    let e = sym d.takes.panel in (subst Legal e (legal_performed p (touching f) h), subst (λ (q : Panel). Takes p 0 path step q) e d.takes)

pub touch_setters : {p : Panel} {f : ℕ} {path setter reads : List ℕ} {step : Step} → Decides p 0 (touching f) path step
    → SettersOf (taken p 0 step path) setter reads → SettersOf (performed p (touching f)).panel setter reads
touch_setters {setter = setter} {reads} d t = subst (λ (q : Panel). SettersOf q setter reads) d.takes.panel t

pub entered_step : (s : Sheet) (f b : ℕ) (fields path rows : List ℕ) (v : ℤ) → v ≡ value_of (word_of (b ∷ fields)) → length rows ≡ rows_length
    → (touch : Step) → Decides s.panel 0 (touching f) path touch → (after : List ℤ) (step : Step) → Entered s f v touch after step
    → Stepped s 0 (Enter f b) fields path rows after step
entered_step s f b fields path rows v e full touch touches after step d =
    let d' : Entered s f (value_of (word_of (b ∷ fields))) touch after step = subst (λ (x : ℤ). Entered s f x touch after step) e d in
    record {
      takes = d'.takes path touches;
      rest = record {
        formulas = either (is_refusal (reply_bytes (step_reply step (step_panel s fields (Enter f b))))) ∙ sym (entered_formulas s f (value_of (word_of (b ∷ fields))));
        values = d'.values;
        reply = append-nil (reply_bytes (step_reply step (step_panel s fields (Enter f b)))) ∙ d'.reply;
        rest = omega arith;
      };
      rows_full = full;
    }
  where
    either : (b : Bool) → with_formula s.formulas 0 (cond b (formula_at s.formulas 0) (formula_at s.formulas 0)) ≡ s.formulas
    either true = formula_kept s.formulas 0
    either false = formula_kept s.formulas 0

-- where no change is asked the step is all
module _ {s : Sheet} {k : ℕ} {tail path rows : List ℕ} {values : List ℤ} {step : Step} where
  pub step_panel_lem : (c : Command) → OneOf (0 ∷ 1 ∷ 2 ∷ 3 ∷ 4 ∷ 6 ∷ 7 ∷ 8 ∷ []) (tag_of the_type c) → Stepped s k c tail path rows values step
      → (step_panel s tail c ≡ (command_answer s c tail).state.panel) × AnswerRest s k c tail rows values (step_reply step (step_panel s tail c))
  step_panel_lem (Open n) h d = (refl, d.rest)
  step_panel_lem (Add id level) h d = (refl, d.rest)
  step_panel_lem (Remove id) h d = (refl, d.rest)
  step_panel_lem (Touch f) h d = (refl, d.rest)
  step_panel_lem Plan h d = (refl, d.rest)
  step_panel_lem (Change id level) h d = absurd (not_among 5 (0 ∷ 1 ∷ 2 ∷ 3 ∷ 4 ∷ 6 ∷ 7 ∷ 8 ∷ []) refl h)
  step_panel_lem (Enter f b) h d = (refl, d.rest)
  step_panel_lem (Relate id form) h d = (refl, d.rest)
  step_panel_lem (Refused x) h d = (refl, d.rest)

-- ---- a change

-- its reply, and what it leaves of the formulas
changed_replied : (s : Sheet) (id level : ℕ) (fields rows : List ℕ) (r : Reply) → reply_bytes r ≡ (performed s.panel (changing id level fields)).reply
    → AnswerRest s (id % 128) (Change id level) fields rows s.values r
changed_replied s id level fields rows r told =
    solved_replied s (id % 128) fields [] rows (Change id level) (changing id level fields) r refl refl
    (λ e. rw (mod-eq_of_lt (changeable s.panel id level fields (changed_passes s.panel id level fields e)).number) (either (eqb (link_at s.panel.links id).covered (covered_in fields)))) told
  where
    either : (b : Bool) → with_formula s.formulas id (cond b (formula_at s.formulas id) None) ≡ cond b s.formulas (with_formula s.formulas id None)
    either true = formula_kept s.formulas id
    either false = refl

-- what was carried out on the panel that the step leaves is the rest of the answer, with its scan
module _ (s : Sheet) (c : Command) (tail path rows : List ℕ) (values : List ℤ) (step : Step) (d : Stepped s (number_of c) c tail path rows values step)
    (id level : ℕ) (is : c ≡ Change id level) (p : Panel) (same : p ≡ step_panel s tail c) (tables : Tables) (before worked : ℕ) (q : Panel) (r : Result ℕ Refusal)
    (done : ChangedLine p tail tables before worked q r c) where
  changes : Changes s.panel id level tail tables before worked q r
  changes =
      subst (λ (p : Panel). Changes p id level tail tables before worked q r) (same ∙ ap (step_panel s tail) is)
      (subst (ChangedLine p tail tables before worked q r) is done)

  pub changed_panel : q ≡ (command_answer s c tail).state.panel
  changed_panel = changes.panel ∙ ap (λ (c : Command). (command_answer s c tail).state.panel) (sym is)

  pub changed_turned : moved_by r ≡ turned s.panel q
  changed_turned = changes.changed

  pub changed_tabled : TablesOf q tables
  changed_tabled = changes.tabled

  pub changed_rest : AnswerRest s (number_of c) c tail rows values (counted (reply_by r) (redrawn_by (moved_by r) step.revalued q))
  changed_rest =
      subst (λ (c : Command). AnswerRest s (number_of c) c tail rows values reply) (sym is)
      (subst (λ (v : List ℤ). AnswerRest s (id % 128) (Change id level) tail rows v reply) (sym rest.0)
      (changed_replied s id level tail rows reply (rw rest.1 changes.reply)))
    where
      reply : Reply
      reply = counted (reply_by r) (redrawn_by (moved_by r) step.revalued q)

      rest : (values ≡ s.values) × (step.revalued ≡ 0)
      rest = (subst (λ (c : Command). Stepped s (number_of c) c tail path rows values step) is d).rest

  pub changed_worked : (line : List ℕ) → command_bytes c tail ≡ frame_of line → worked ≡ line_scan before s line
  changed_worked line read = changes.scan ∙ changed_scan before s line c tail read id level is

-- ---- formulas

-- where the command changes none, the formulas are as they were
pub formulas_same : (s : Sheet) (k : ℕ) (c : Command) (fields : List ℕ) (r : Reply) (covered : ℕ) → sets_formula c ≡ false
    → s.formulas ≡ with_formula s.formulas k (formula_after c fields r covered (formula_at s.formulas k))
formulas_same s k c fields r covered e =
    sym (ap (with_formula s.formulas k) (either (is_refusal (reply_bytes r)) (given_kept c fields covered (formula_at s.formulas k) e)) ∙ formula_kept s.formulas k)
  where
    either : {old given : Rule} (b : Bool) → old ≡ given → cond b old given ≡ old
    either true e = refl
    either false e = sym e

-- ---- what a line does

-- the formulas with the one that the command leaves, and the panel afterwards, are the answer's
pub did : (q : Sheet) (line : List ℕ) (c : Command) (fields : List ℕ) → command_bytes c fields ≡ frame_of line → (k : ℕ) (rows : List ℕ) (values : List ℤ) (r : Reply)
    → AnswerRest q k c fields rows values r → (p : Panel) → p ≡ (command_answer q c fields).state.panel
    → (formulas : List Rule) → formulas ≡ with_formula q.formulas k (formula_after c fields r (link_at q.panel.links k).covered (formula_at q.formulas k)) → LegalSheet q
    → Did line_answer LegalSheet q line (sheet_of p formulas values) (whole_reply c r rows)
did q line c fields read k rows values r d p e formulas given h =
    let same : sheet_of p formulas values ≡ (command_answer q c fields).state =
    ap (λ (x : Panel). sheet_of x formulas values) e
    ∙ ap₂ (λ (x : List Rule) (y : List ℤ). sheet_of (command_answer q c fields).state.panel x y) (given ∙ d.formulas) d.values in
    record {
      is = ap₂ (λ (x : Sheet) (y : List ℕ). record { state = x; reply = y }) same d.reply ∙ line_answer_lem q line c fields read;
      legal = subst LegalSheet (sym same) (answer_legal q c fields h);
      short = reply_short c r rows d.rest;
    }
