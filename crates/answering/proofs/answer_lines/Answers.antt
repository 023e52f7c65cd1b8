use mathlib.Core.Path.{◌≡◌, refl, sym, ap, ◌∙◌, subst}
use mathlib.Core.Logic.{◌⊎◌, inl, inr}
use mathlib.Core.List.{List, [], ◌∷◌}
use Prim.Native.Nat.{ℕ, ◌+◌, ◌-◌, ◌^◌, ◌≤◌, ◌<◌}
use native.Mathlib.Omega.{arith}
use borrow.Author.Rules.{rules}
use mir.Facts.{to_z-of_z}
use mir.Val.{SFits}
use mir.Syntax.{w32}
use lib.IntN.{ℤ}
use lib.ListN.{length, take, drop, replicate}
use lib.Seq.{sets, length-sets}
use Rattle.fieldset.specs.Fields.{below, union}
use Rattle.fieldset.specs.Tables.{at}
use Rattle.downstream.specs.Downstream.{gathered}
use Rattle.panel.specs.declared.Panel.{Panel}
use Rattle.std.specs.Prelude.{Result, Ok, Err}
use Rattle.std.specs.Result.{result_and, result_unwrap_or}
use Rattle.panel.specs.declared.Refusal.{Refusal}
use Rattle.panel.specs.Answers.{Reply}
use Rattle.panel.specs.declared.Step.{Step}
use Rattle.panel.specs.Items.{link_at}
use Rattle.panel.specs.Legal.{Legal}
use Rattle.panel.proofs.Moved.{turned_lt}
use Rattle.panel.specs.Outcomes.{Takes, counted, redrawn_by}
use Rattle.formulas.specs.Formulas.{Rule}
use Rattle.sheet.specs.declared.Sheet.{Sheet}
use Rattle.sheet.specs.Sheets.{sheet_of, formula_at, with_formula}
use Rattle.sheet.specs.Legal.{LegalSheet}
use Rattle.tables.proofs.Settings.{places}
use Rattle.tables.specs.declared.Tables.{Tables}
use Rattle.tables.specs.Tables.{TablesOf, Tabled}
use Rattle.taking.proofs.Taking.{Taken, places_taken, taken_reversed, tabled_altered, taken_unmoved}
use Rattle.keeping.specs.Keeping.{Kept}
use Rattle.redrawing.proofs.Redrawing.{Stale, Sizes, redrawn_is, stale_start, stale_change, stale_step}
use Rattle.hexadecimal.specs.Hex.{line_of}
use Rattle.tally.specs.Tallies.{tallied}
use Rattle.changing.specs.Changed.{moved_by, reply_by}
use Rattle.frames.specs.declared.Command.{Command}
use Rattle.frames.specs.declared.Command.TheVariants.{Open, Add, Remove, Touch, Plan, Change, Enter, Relate, Refused}
use Rattle.frames.specs.contracts.Command.{the_type}
use denote.Enum.Declared.{tag_of}
use Rattle.frames.specs.Frames.{frame_of, command_bytes, number_of, command_answer, line_answer}
use Rattle.lines.proofs.Lines.{end_within, behind_on}
use Rattle.replies.specs.Replies.{rest_of, whole_reply}
use Rattle.replies.proofs.Replies.{rows_tell_none, reply_short}
use Rattle.frames.specs.Reading.{tail_of}
use Rattle.deciding.specs.Lines.{formula_after, sets_formula, AnswerRest, ChangedLine}
use Rattle.deciding.proofs.Arms.{OneOf, framed, entered_touch}
use Rattle.answering.specs.Scans.{line_scan}
use Rattle.answering.proofs.LineAnswers.{removal_no_change, removed_scan, no_scan, removed_step, touch_taken, touch_setters, entered_step, step_panel, Stepped, step_legal, step_sizes, answer_legal, answer_sizes, decided_stepped, step_panel_lem, changed_panel, changed_turned, changed_tabled, changed_rest, changed_worked, formulas_same, did}
use Rattle.answering.proofs.Going.{Did, start, line_done, finish_end, finish_full}
use Rattle.answering.proofs.answer_lines.Goals as goal
use Rattle.answering.proofs.answer_lines.Goals.{
  After-count_reply-reply,
  Joined-command,
  Joined-turned-ne0,
  Joined-command-3,
  Joined-sets_formula,
  in-Remove,
  in_default+in-Enter,
  in_default+in_default-command,
  then-turned-ne0,
  else-turned-ne0,
  in-Change,
  in_default-command-2,
  then-sets_formula,
  else-sets_formula,
}

-- ---- what the tests of the command leave

no_removal : (c : Command) → ((id : ℕ) → c ≡ Remove id → ⊥) → OneOf (0 ∷ 1 ∷ 3 ∷ 4 ∷ 5 ∷ 6 ∷ 7 ∷ 8 ∷ []) (tag_of the_type c)
no_removal (Open n) h = inl refl
no_removal (Add id level) h = inr (inl refl)
no_removal (Remove id) h = absurd (h id refl)
no_removal (Touch f) h = inr (inr (inl refl))
no_removal Plan h = inr (inr (inr (inl refl)))
no_removal (Change id level) h = inr (inr (inr (inr (inl refl))))
no_removal (Enter f b) h = inr (inr (inr (inr (inr (inl refl)))))
no_removal (Relate id form) h = inr (inr (inr (inr (inr (inr (inl refl))))))
no_removal (Refused r) h = inr (inr (inr (inr (inr (inr (inr refl))))))

no_entry : (c : Command) → ((f b : ℕ) → c ≡ Enter f b → ⊥) → OneOf (0 ∷ 1 ∷ 2 ∷ 3 ∷ 4 ∷ 5 ∷ 7 ∷ 8 ∷ []) (tag_of the_type c)
no_entry (Open n) h = inl refl
no_entry (Add id level) h = inr (inl refl)
no_entry (Remove id) h = inr (inr (inl refl))
no_entry (Touch f) h = inr (inr (inr (inl refl)))
no_entry Plan h = inr (inr (inr (inr (inl refl))))
no_entry (Change id level) h = inr (inr (inr (inr (inr (inl refl)))))
no_entry (Enter f b) h = absurd (h f b refl)
no_entry (Relate id form) h = inr (inr (inr (inr (inr (inr (inl refl))))))
no_entry (Refused r) h = inr (inr (inr (inr (inr (inr (inr refl))))))

no_change : (c : Command) → ((id level : ℕ) → c ≡ Change id level → ⊥) → OneOf (0 ∷ 1 ∷ 2 ∷ 3 ∷ 4 ∷ 6 ∷ 7 ∷ 8 ∷ []) (tag_of the_type c)
no_change (Open n) h = inl refl
no_change (Add id level) h = inr (inl refl)
no_change (Remove id) h = inr (inr (inl refl))
no_change (Touch f) h = inr (inr (inr (inl refl)))
no_change Plan h = inr (inr (inr (inr (inl refl))))
no_change (Change id level) h = absurd (h id level refl)
no_change (Enter f b) h = inr (inr (inr (inr (inr (inl refl)))))
no_change (Relate id form) h = inr (inr (inr (inr (inr (inr (inl refl))))))
no_change (Refused r) h = inr (inr (inr (inr (inr (inr (inr refl))))))

-- ---- the laws, with the values that the code has for theirs

moved : {s : Sheet} {tail path path' rows rows' : List ℕ} {c c' : Command} {values values' : List ℤ} {step step' : Step} → c ≡ c' → path ≡ path' → rows ≡ rows'
    → values ≡ values' → step ≡ step' → Stepped s (number_of c') c' tail path' rows' values' step' → Stepped s (number_of c) c tail path rows values step
moved e ep er ev es d = rw (e, ep, er, ev, es) d

abbrev TakenBy : Panel → Panel → Tables → Type 0
TakenBy after q t = Taken after q t.levels t.others t.reads

taken_as : {after q q' : Panel} {tables tables' : Tables} → q ≡ q' → tables ≡ tables' → TakenBy after q' tables' → TakenBy after q tables
taken_as e et d = rw (e, et) d

-- the panel after the line and its tables, the rest of the answer, and what is kept from before it
record Settled (s : Sheet) (k : Command) (tail rows : List ℕ) (values : List ℤ) (revalued : ℕ) (line : List ℕ) (before : ℕ) (q : Panel) (tables : Tables)
    (reply : Reply) (turned stale worked : ℕ) (shown readers down : List ℕ) : Type 0 where
  panel : q ≡ (command_answer s k tail).state.panel
  legal : Legal q
  tabled : TablesOf q tables
  rest : AnswerRest s (number_of k) k tail rows values (counted reply (redrawn_by turned revalued q))
  small : turned < 2 ^ 64
  due : Stale q.size stale tables.reads shown readers down
  scan : worked ≡ line_scan before s line

settled_as : {s : Sheet} {k : Command} {tail rows : List ℕ} {values : List ℤ} {revalued : ℕ} {line : List ℕ} {before : ℕ} {q q' : Panel}
    {tables tables' : Tables} {reply reply' : Reply} {turned turned' stale stale' worked worked' : ℕ} {shown readers down : List ℕ}
    → q ≡ q' → tables ≡ tables' → reply ≡ reply' → turned ≡ turned' → stale ≡ stale' → worked ≡ worked'
    → Settled s k tail rows values revalued line before q' tables' reply' turned' stale' worked' shown readers down
    → Settled s k tail rows values revalued line before q tables reply turned stale worked shown readers down
settled_as eq el ey et es ew d = rw (eq, el, ey, et, es, ew) d

-- what a change answers, by the code's calls
reply_is : (r : Result ℕ Refusal) → result_and r (Ok 0) ≡ reply_by r
reply_is (Ok set) = refl
reply_is (Err x) = refl

moved_is : (r : Result ℕ Refusal) → result_unwrap_or r 0 ≡ moved_by r
moved_is (Ok set) = refl
moved_is (Err x) = refl

module _ {s : Sheet} {k : Command} {tail path rows : List ℕ} {values : List ℤ} {step : Step} (d : Stepped s (number_of k) k tail path rows values step) (h : LegalSheet s)
    {levels others reads readers down : List ℕ} (tabled : Tabled s.panel levels others reads) (kept : Kept s.panel.size reads readers down)
    {line : List ℕ} (read : command_bytes k tail ≡ frame_of line) {before : ℕ} where
  -- after a change; the reads may differ from those that are kept in any field
  change_settled : {id level : ℕ} → k ≡ Change id level → {p : Panel} → p ≡ step_panel s tail k → {tables' : Tables} {was worked : ℕ} {q : Panel} (r : Result ℕ Refusal)
      → was ≡ before → ChangedLine p tail tables' was worked q r k
      → Settled s k tail rows values step.revalued line before q tables' (reply_by r) (moved_by r) (below q.size) worked reads readers down
  change_settled {id} {level} is {p} same {tables'} {was} {worked} {q} r same_scan done =
      let panel : q ≡ (command_answer s k tail).state.panel = changed_panel s k tail path rows values step d id level is p same tables' was worked q r done in
      let now : TablesOf q tables' = changed_tabled s k tail path rows values step d id level is p same tables' was worked q r done in
      let legal : Legal q = subst Legal (sym panel) (answer_legal s k tail h).panel in
      record {
        panel = panel;
        legal = legal;
        tabled = now;
        rest = changed_rest s k tail path rows values step d id level is p same tables' was worked q r done;
        small =
            subst (λ (x : ℕ). x < 2 ^ 64) (sym (changed_turned s k tail path rows values step d id level is p same tables' was worked q r done))
            (turned_lt _ _ legal.few);
        due = stale_change h.panel legal (subst (Sizes s.panel) (sym panel) (answer_sizes s k tail)) tabled kept now;
        scan =
            changed_worked s k tail path rows values step d id level is p same tables' was worked q r done line read
            ∙ ap (λ (b : ℕ). line_scan b s line) same_scan;
      }

  -- after another line; in the fields that got another setter
  step_settled : OneOf (0 ∷ 1 ∷ 2 ∷ 3 ∷ 4 ∷ 6 ∷ 7 ∷ 8 ∷ []) (tag_of the_type k) → {n : ℕ} → n < 128 → Takes s.panel n path step (step_panel s tail k)
      → {q : Panel} {tables' : Tables} {worked : ℕ} → TakenBy (step_panel s tail k) q tables' → worked ≡ line_scan before s line
      → Settled s k tail rows values step.revalued line before q tables' step.reply step.changed step.changed worked reads readers down
  step_settled other {n} small takes {q} {tables'} t scan =
      let after : Panel = step_panel s tail k in
      let legal : Legal after = step_legal s tail k h in
      let same = step_panel_lem k other d in
      record {
        panel = t.panel ∙ same.0;
        legal = t.legal;
        tabled = t.tabled;
        rest =
            subst (λ (p : Panel). AnswerRest s (number_of k) k tail rows values (counted step.reply (redrawn_by step.changed step.revalued p))) (sym t.panel) same.1;
        small = subst (λ (x : ℕ). x < 2 ^ 64) (sym takes.changed) (turned_lt _ _ legal.few);
        due =
            subst (λ (p : Panel). Stale p.size step.changed tables'.reads reads readers down) (sym t.panel)
            (stale_step h.panel legal (step_sizes s tail k) tabled kept (subst (λ (p : Panel). TablesOf p tables') t.panel t.tabled) takes small);
        scan = scan;
      }

-- ---- the places: the line is read, and the link that its command names is known

pub refresh-requires-clause-kept : goal.refresh-requires-clause-kept
refresh-requires-clause-kept c =
    let k : Stale c.args.s.panel.size c.below-all.result c.tables_of-tables.result.reads (replicate 64 0) (replicate 64 0) (replicate 64 0) =
    rw c.below-all.ensures (stale_start c.requires.0.panel c.tables_of-tables.ensures) in
    (k.kept, k.full, k.among, k.loopless)

pub refresh-requires-clause-within : goal.refresh-requires-clause-within
refresh-requires-clause-within c =
    let k : Stale c.args.s.panel.size c.below-all.result c.tables_of-tables.result.reads (replicate 64 0) (replicate 64 0) (replicate 64 0) =
    rw c.below-all.ensures (stale_start c.requires.0.panel c.tables_of-tables.ensures) in
    (k.low, k.differ)

pub loop-at-init : goal.loop-at-init
loop-at-init c =
    (refl, refl, c.tables_of-tables.ensures, start _ _ _ _ _ _ _ _ _ c.requires.0, c.refresh.ensures.0, c.refresh.ensures.1)

pub slice_bounds-read_line-end : goal.slice_bounds-read_line-end
slice_bounds-read_line-end c = end_within c.args.text.now c.loop-at.at c.line_end-end.result c.loop-at-test.true c.line_end-end.ensures

pub decide_line-step-requires : goal.decide_line-step-requires
decide_line-step-requires c =
    let l = c.loop-at.invariant in
    record {
      legal = (l.3.legal.panel, l.2, ap (link_at c.loop-at.q.links) (c.from-k.ensures ∙ c.number_of.ensures.0));
      framed = framed _ _ c.read_line-line.ensures;
    }

pub setters-setter-requires : goal.setters-setter-requires
setters-setter-requires c =
    let l = c.loop-at.invariant in
    let t = entered_touch _ _ (tail_of c.read_line-line.result) _ _ _ c.read_line-line.result.command _ _ c.in-Enter.is c.decide_line-step.ensures in
    record { legal = (l.3.legal.panel, l.2); legal_2 = touch_taken l.3.legal.panel t.decides }

pub value_of-v-requires : goal.value_of-v-requires
value_of-v-requires c = (framed _ _ c.read_line-line.ensures).short

pub enter-requires : goal.enter-requires
enter-requires c =
    let l = c.loop-at.invariant in
    let t = entered_touch _ _ (tail_of c.read_line-line.result) _ _ _ c.read_line-line.result.command _ _ c.in-Enter.is c.decide_line-step.ensures in
    record {
      legal_sheet =
          (l.3.legal, ap (link_at c.loop-at.q.links) (c.from-k.ensures ∙ c.number_of.ensures.0) ∙ ap (λ (x : Command). link_at c.loop-at.q.links (number_of x)) c.in-Enter.is);
      by_index = ((_, t.decides), touch_setters t.decides c.setters-setter.ensures);
    }

-- ---- the step of the line, and the panel that has taken it

same_command : (c : Joined-command) → c.match-command.command ≡ c.read_line-line.result.command
same_command c =
    elim c.match-command.branch [
      | in-Remove w ↦ w.command-is ∙ sym w.in-Remove.is
      | in_default+in-Enter w ↦ w.command-is ∙ sym w.in-Enter.is
      | in_default+in_default-command w ↦ w.command-is
    ]

stepped : (c : Joined-command) → let l = c.loop-at in let n = c.read_line-line.result in let m = c.match-command in
    Stepped (sheet_of l.q l.formulas l.values) (number_of n.command) n.command (tail_of n) m.path m.rows m.values m.step
stepped c =
    let l = c.loop-at in
    let n = c.read_line-line.result in
    let s : Sheet = sheet_of l.q l.formulas l.values in
    elim c.match-command.branch [
      | in-Remove w ↦ moved w.in-Remove.is w.path-is w.rows-is w.values-is w.step-is
          (removed_step s _ (tail_of n) _ _ l.invariant.0 _ w.remove-step.ensures.decides)
      | in_default+in-Enter w ↦
          let t = entered_touch _ _ (tail_of n) _ _ _ n.command _ _ w.in-Enter.is w.decide_line-step.ensures in
          let fits : SFits w32 w.value_of-v.result = search rules in
          moved w.in-Enter.is w.path-is w.rows-is w.values-is w.step-is
          (entered_step s _ _ (tail_of n) _ _ _ (to_z-of_z fits ∙ w.value_of-v.ensures) t.rows_full _ t.decides _ _ w.enter.ensures)
      | in_default+in_default-command w ↦ moved refl w.path-is w.rows-is w.values-is w.step-is
          (decided_stepped _ _ _ _ _ _ _ n.command (no_removal n.command w.in_default.not-Remove) (no_entry n.command w.in_default-command.not-Enter)
          (ap (link_at l.q.links) (c.from-k.ensures ∙ c.number_of.ensures.0)) w.decide_line-step.ensures l.formulas l.values)
    ]

-- the step, of the link that the code names
takes_at : (c : Joined-command) → let l = c.loop-at in let n = c.read_line-line.result in let m = c.match-command in
    Takes l.q c.from-k.result m.path m.step (step_panel (sheet_of l.q l.formulas l.values) (tail_of n) n.command)
takes_at c =
    let l = c.loop-at in
    let n = c.read_line-line.result in
    let m = c.match-command in
    subst (λ (k : ℕ). Takes l.q k m.path m.step (step_panel (sheet_of l.q l.formulas l.values) (tail_of n) n.command)) (sym (c.from-k.ensures ∙ c.number_of.ensures.0))
    (stepped c).takes

legal_after : (c : Joined-command) → let l = c.loop-at in let n = c.read_line-line.result in
    Legal (step_panel (sheet_of l.q l.formulas l.values) (tail_of n) n.command)
legal_after c =
    let l = c.loop-at in
    let n = c.read_line-line.result in
    step_legal (sheet_of l.q l.formulas l.values) (tail_of n) n.command l.invariant.3.legal

pub stay_levels-requires : goal.stay_levels-requires
stay_levels-requires c =
    let j = (goal.at.stay_levels-requires c).Joined-command in
    places_taken (takes_at j) (legal_after j)

pub reverse-requires : goal.reverse-requires
reverse-requires c =
    let j = (goal.at.reverse-requires c).Joined-command in
    let t = takes_at j in
    let small : c.from-k.result < 128 = omega (arith, c.from-k.ensures, c.number_of.ensures.1) in (
      t.path_of,
      places_taken t (legal_after j),
      tabled_altered t (legal_after j) c.loop-at.invariant.3.legal.panel small c.loop-at.invariant.2 c.stay_levels.ensures,
    )

-- the panel after the step, where the link that it names takes it
taken : (c : Joined-turned-ne0) → let l = c.loop-at in let n = c.read_line-line.result in let m = c.match-command in
    let after = step_panel (sheet_of l.q l.formulas l.values) (tail_of n) n.command in
    Takes l.q c.from-k.result m.path m.step after → Legal after
    → let t = c.if-turned-ne0 in TakenBy after t.q t.tables
taken c takes legal =
    let l = c.loop-at.invariant in
    let small : c.from-k.result < 128 = omega (arith, c.from-k.ensures, c.number_of.ensures.1) in
    elim c.if-turned-ne0.branch [
      | then-turned-ne0 w ↦ taken_as w.q-is w.tables-is (taken_reversed takes legal w.reverse.ensures.reversed w.reverse.ensures.tabled)
      | else-turned-ne0 w ↦ taken_as w.q-is w.tables-is
          (taken_unmoved takes legal l.3.legal.panel small l.2 c.stay_levels.ensures w.if-turned-ne0.false)
    ]

-- ---- a change, where it is asked

pub changed-c-requires : goal.changed-c-requires
changed-c-requires c =
    let a = goal.at.changed-c-requires c in
    let j = a.Joined-command in
    let t = taken a.Joined-turned-ne0 (takes_at j) (legal_after j) in
    (t.legal, t.tabled, framed _ _ c.read_line-line.ensures)

pub below-stale-requires : goal.below-stale-requires
below-stale-requires c =
    let a = goal.at.below-stale-requires c in
    let j = a.Joined-command in
    let l = c.loop-at in
    let n = c.read_line-line.result in
    let t = taken a.Joined-turned-ne0 (takes_at j) (legal_after j) in
    let z = change_settled (stepped j) l.invariant.3.legal l.invariant.2 l.invariant.5 c.read_line-line.ensures.bytes (sym (same_command j) ∙ c.in-Change.is) t.panel c.changed-c.result refl
    c.changed-c.ensures in
    z.legal.few

-- ---- the count, and the kept tables

-- the scan before: before a change none was made
scanned : (c : Joined-command) → let l = c.loop-at in let n = c.read_line-line.result in let s = sheet_of l.q l.formulas l.values in
    let line = take (c.line_end-end.result - l.at) (drop l.at c.args.text.now) in
    ((id level : ℕ) → n.command ≡ Change id level → c.match-command.worked ≡ l.worked)
    × (OneOf (0 ∷ 1 ∷ 2 ∷ 3 ∷ 4 ∷ 6 ∷ 7 ∷ 8 ∷ []) (tag_of the_type n.command) → c.match-command.worked ≡ line_scan l.worked s line)
scanned c =
    let l = c.loop-at in
    let n = c.read_line-line.result in
    let s : Sheet = sheet_of l.q l.formulas l.values in
    let line : List ℕ = take (c.line_end-end.result - l.at) (drop l.at c.args.text.now) in
    let read : command_bytes n.command (tail_of n) ≡ frame_of line = c.read_line-line.ensures.bytes in
    elim c.match-command.branch [
      | in-Remove w ↦ (
        λ id level e. absurd (removal_no_change (sym w.in-Remove.is ∙ e)),
        λ other. w.worked-is ∙ w.remove-step.ensures.worked_after ∙ removed_scan l.worked s line n.command (tail_of n) read _ w.in-Remove.is,
      )
      | in_default+in-Enter w ↦ (
        λ id level e. w.worked-is,
        λ other. w.worked-is ∙ no_scan l.worked s line n.command (tail_of n) read (no_removal n.command w.in_default.not-Remove) other,
      )
      | in_default+in_default-command w ↦ (
        λ id level e. w.worked-is,
        λ other. w.worked-is ∙ no_scan l.worked s line n.command (tail_of n) read (no_removal n.command w.in_default.not-Remove) other,
      )
    ]

settled : (c : Joined-command-3) → let l = c.loop-at in let n = c.read_line-line.result in let m = c.match-command in let s = sheet_of l.q l.formulas l.values in
    let line = take (c.line_end-end.result - l.at) (drop l.at c.args.text.now) in let after = step_panel s (tail_of n) n.command in
    m.command ≡ n.command → Stepped s (number_of n.command) n.command (tail_of n) m.path m.rows m.values m.step → Takes l.q c.from-k.result m.path m.step after
    → (let t = c.if-turned-ne0 in TakenBy after t.q t.tables)
    → ((id level : ℕ) → n.command ≡ Change id level → m.worked ≡ l.worked)
    × (OneOf (0 ∷ 1 ∷ 2 ∷ 3 ∷ 4 ∷ 6 ∷ 7 ∷ 8 ∷ []) (tag_of the_type n.command) → m.worked ≡ line_scan l.worked s line)
    → let t = c.match-command-3 in
    Settled s n.command (tail_of n) m.rows m.values m.step.revalued line l.worked t.q t.tables t.reply t.turned t.stale t.worked l.tables.reads l.kept.readers l.kept.down
settled c same d takes t scan =
    let l = c.loop-at in
    let n = c.read_line-line.result in
    let i = l.invariant in
    let small : c.from-k.result < 128 = omega (arith, c.from-k.ensures, c.number_of.ensures.1) in
    elim c.match-command-3.branch [
      | in-Change w ↦
          let is : n.command ≡ Change _ _ = sym same ∙ w.in-Change.is in
          settled_as w.q-is w.tables-is (w.reply-is ∙ w.and-reply.ensures ∙ reply_is w.changed-c.result) (w.turned-is ∙ w.unwrap_or-turned.ensures ∙ moved_is w.changed-c.result) (w.stale-is ∙ w.below-stale.ensures) w.worked-is
          (change_settled d i.3.legal i.2 i.5 c.read_line-line.ensures.bytes is t.panel w.changed-c.result (scan.0 _ _ is) w.changed-c.ensures)
      | in_default-command-2 w ↦
          let other = no_change n.command (λ id level e. w.in_default-command-2.not-Change id level (same ∙ e)) in
          settled_as w.q-is w.tables-is w.reply-is w.turned-is w.stale-is w.worked-is
          (step_settled d i.3.legal i.2 i.5 c.read_line-line.ensures.bytes other small takes t (scan.1 other))
    ]

pub refresh-requires-in-loop-at-clause-kept : goal.refresh-requires-in-loop-at-clause-kept
refresh-requires-in-loop-at-clause-kept c =
    let a = goal.at.refresh-requires-in-loop-at-clause-kept c in
    let j = a.Joined-command in
    let t = takes_at j in
    let z = settled a.Joined-command-3 (same_command j) (stepped j) t (taken a.Joined-turned-ne0 t (legal_after j)) (scanned j) in
    rw c.loop-at.invariant.4 (z.due.kept, z.due.full, z.due.among, z.due.loopless)

pub refresh-requires-in-loop-at-clause-within : goal.refresh-requires-in-loop-at-clause-within
refresh-requires-in-loop-at-clause-within c =
    let a = goal.at.refresh-requires-in-loop-at-clause-within c in
    let j = a.Joined-command in
    let t = takes_at j in
    let z = settled a.Joined-command-3 (same_command j) (stepped j) t (taken a.Joined-turned-ne0 t (legal_after j)) (scanned j) in
    rw c.loop-at.invariant.4 (z.due.low, z.due.differ)

-- ---- what one line does

-- the rest of the answer, with the count that was taken
rest_counted : {s : Sheet} {k : Command} {tail rows : List ℕ} {values : List ℤ} {revalued : ℕ} {line : List ℕ} {before : ℕ} {q : Panel} {tables : Tables}
    {reply r : Reply} {turned stale worked : ℕ} {shown readers down readers' down' : List ℕ}
    → Settled s k tail rows values revalued line before q tables reply turned stale worked shown readers down
    → Kept q.size tables.reads readers' down' → r ≡ counted reply (union (gathered (at down') turned) revalued) → AnswerRest s (number_of k) k tail rows values r
rest_counted {s} {k} {tail} {rows} {values} {revalued} {reply = reply} {turned = turned} z kept e =
    subst (AnswerRest s (number_of k) k tail rows values) (sym (e ∙ ap (counted reply) (redrawn_is z.legal z.tabled kept turned z.small revalued))) z.rest

pub rule_after-requires : goal.rule_after-requires
rule_after-requires c = framed _ _ c.read_line-line.ensures

-- with the formula that the line leaves the link that it names
rule_is : (c : Joined-sets_formula) → c.match-command.command ≡ c.read_line-line.result.command → let l = c.loop-at in let n = c.read_line-line.result in let k = number_of n.command in
    c.if-sets_formula.formulas
    ≡ with_formula l.formulas k (formula_after n.command (tail_of n) c.count_reply-reply.result (link_at l.q.links k).covered (formula_at l.formulas k))
rule_is c same =
    let l = c.loop-at in
    let n = c.read_line-line.result in
    let k = c.from-k.result in
    let ruled : c.if-sets_formula.formulas ≡ with_formula l.formulas k (formula_after n.command (tail_of n) c.count_reply-reply.result (link_at l.q.links k).covered (formula_at l.formulas k)) =
    elim c.if-sets_formula.branch [
      | then-sets_formula w ↦ w.formulas-is ∙ ap (with_formula l.formulas k) w.rule_after.ensures
      | else-sets_formula w ↦ w.formulas-is ∙ formulas_same (sheet_of l.q l.formulas l.values) k n.command (tail_of n) c.count_reply-reply.result _
          (ap sets_formula (sym same) ∙ sym c.sets_formula.ensures ∙ w.if-sets_formula.false)
    ] in
    ruled
    ∙ ap (λ (k : ℕ). with_formula l.formulas k (formula_after n.command (tail_of n) c.count_reply-reply.result (link_at l.q.links k).covered (formula_at l.formulas k)))
    (c.from-k.ensures ∙ c.number_of.ensures.0)

pub put_reply-n-requires : goal.put_reply-n-requires
put_reply-n-requires c =
    let a = goal.at.put_reply-n-requires c in
    let j = a.Joined-command in
    let t = takes_at j in
    let z = settled a.Joined-command-3 (same_command j) (stepped j) t (taken a.Joined-turned-ne0 t (legal_after j)) (scanned j) in
    let few = ap (λ (k : Command). rest_of k c.count_reply-reply.result) (same_command j) in
    let rest = (rest_counted z c.refresh-in-loop-at.ensures.1 c.count_reply-reply.ensures).rest in
    let short = reply_short c.match-command.command c.count_reply-reply.result c.match-command.rows (omega (arith, few, rest)) in
    (omega (arith, few, rest, (stepped j).rows_full), omega (arith, short, c.loop-at.invariant.3.fits, c.requires.1))

pub loop-at-smaller : goal.loop-at-smaller
loop-at-smaller c =
    let text = c.args.text.now in
    omega (
      arith,
      c.behind-at.ensures,
      behind_on text c.loop-at.at c.line_end-end.result c.loop-at-test.true c.line_end-end.ensures,
      end_within text c.loop-at.at c.line_end-end.result c.loop-at-test.true c.line_end-end.ensures,
    )

pub loop-at-preserved : goal.loop-at-preserved
loop-at-preserved c =
    let a = goal.at.loop-at-preserved c in
    let j = a.Joined-command in
    let t = takes_at j in
    let d = stepped j in
    let same = same_command j in
    let z = settled a.Joined-command-3 same d t (taken a.Joined-turned-ne0 t (legal_after j)) (scanned j) in
    let l = c.loop-at in
    let n = c.read_line-line.result in
    let s : Sheet = sheet_of l.q l.formulas l.values in
    let line : List ℕ = take (c.line_end-end.result - l.at) (drop l.at c.args.text.now) in
    let r = c.count_reply-reply.result in
    let w = c.put_reply-n.ensures in
    let written = ap (λ (k : Command). whole_reply k r c.match-command.rows) same in
    let does =
    did s line n.command (tail_of n) c.read_line-line.ensures.bytes _ _ _ _ (rest_counted z c.refresh-in-loop-at.ensures.1 c.count_reply-reply.ensures) _ z.panel _
    (rule_is a.Joined-sets_formula same) l.invariant.3.legal in (
      d.rows_full,
      d.takes.path_of.full,
      z.tabled,
      line_done _ _ _ _ _ _ _ _ _ _ _ l.invariant.3 c.loop-at-test.true c.if-room-n-ge-LONGEST.true c.line_end-end.result c.line_end-end.ensures
          line refl _ _ (whole_reply n.command r c.match-command.rows) does
          (w.out_after ∙ ap (λ (b : List ℕ). sets l.out l.n (line_of b)) written) (w.value ∙ ap (λ (b : List ℕ). l.n + length (line_of b)) written)
          (c.tallied_line-t.ensures ∙ ap (tallied l.t) (c.refusal_of.ensures ∙ rows_tell_none n.command r c.match-command.rows)) c.behind-at.ensures
          z.scan,
      c.refresh-in-loop-at.ensures.0,
      c.refresh-in-loop-at.ensures.1,
    )

pub returns-after-loop-at : goal.returns-after-loop-at
returns-after-loop-at c = finish_end _ _ _ _ _ _ _ _ _ _ _ c.loop-at.invariant.3 c.loop-at-test.false

pub returns-else-room-n-ge-LONGEST : goal.returns-else-room-n-ge-LONGEST
returns-else-room-n-ge-LONGEST c = finish_full _ _ _ _ _ _ _ _ _ _ _ c.loop-at.invariant.3 c.if-room-n-ge-LONGEST.false
