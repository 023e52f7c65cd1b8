-- Lists of commands on sheets: every beginning is sound and legal (`Beginnings`); kind 07 is a touch or leaves the sheet, kind 08 leaves the panel, so
-- that a sound panel and store stay sound (`sheet_sound`); a legal sheet stays legal. Assumes nothing.
use mathlib.Core.Path.{◌≡◌, refl, sym, ap, subst, ◌∙◌}
use mathlib.Core.Bool.{Bool, true, false, cond}
use mathlib.Core.List.{List, [], ◌∷◌}
use mathlib.Core.Logic.{◌⊎◌, inl, inr}
use mathlib.Core.Option.{some}
use Prim.Native.Nat.{ℕ, ◌<◌}
use native.Mathlib.Decide.{ℕ_discrete}
use borrow.Author.Tests.{ltb-false, eq-eqb, ne_eqb}
use lib.Dec.{eqb}
use lib.Seq.{get_or-set_same, get_or-set_other}
use native.Mathlib.Omega.{arith}
use Rattle.std.specs.Prelude.{None}
use Rattle.fieldset.specs.Tables.{at}
use Rattle.fieldset.specs.Lists.{In}
use Rattle.fieldset.proofs.Lists.{all_in}
use Rattle.panel.specs.declared.Link.{Link}
use Rattle.panel.specs.declared.Panel.{Panel}
use Rattle.panel.specs.declared.Refusal.TheVariants.{Conflict}
use Rattle.panel.specs.declared.Standing.TheVariants.{Holding}
use Rattle.panel.specs.Items.{link, stay, link_at, is_in_force}
use Rattle.panel.specs.Answers.{refusal_bytes, is_refusal}
use Rattle.panel.specs.Solution.{plan_of}
use Rattle.panel.specs.Legal.{Legal}
use Rattle.panel.specs.Commands as panel
use Rattle.panel.specs.Commands.{opening, adding, removing, touching, planning, changing, covered_in, Check, check_reply}
use Rattle.panel.proofs.Reversed.{setter_number, setter_own}
use Rattle.panel.proofs.InForce.{used_force}
use Rattle.panel.proofs.Checks.{removable, changeable, change_removes}
use Rattle.panel.proofs.Performed.{removed_number, changed_passes, opened_unopened}
use Rattle.formulas.specs.Formulas.{Rule}
use Rattle.optimality.specs.Condition3 as store
use Rattle.optimality.specs.Condition3.{Entry, Store, held, Run, stepped}
use Rattle.optimality.specs.Agreement.{entry_for, entry_of, Agrees, Sound}
use Rattle.optimality.proofs.Matchings.{pair_setter}
use Rattle.optimality.proofs.Graphs.{setters_of}
use Rattle.optimality.proofs.Held.{plan_whole, held_pairs}
use Rattle.optimality.proofs.Agreement.{entry_force}
use Rattle.optimality.proofs.Optimum.{sound_optimal}
use Rattle.optimality.proofs.Answers.{touch_never_conflict}
use Rattle.optimality.proofs.States.{sound_settled, optimal_best}
use Rattle.optimality.proofs.Conflict.{sound_conflict_exactly, sound_change_conflict_exactly}
use Rattle.optimality.proofs.Removing.{looks_alike}
use Rattle.optimality.proofs.Loops.{command_exactly}
use Rattle.optimality.proofs.Runs.{performed_sound, kept_after, every_system}
use Rattle.sheet.specs.declared.Sheet.{Sheet}
use Rattle.sheet.specs.Sheets.{formula_at, with_formula}
use Rattle.sheet.specs.Commands.{Command, solving, entering, relating, Answer, formulas_after, formula_checks, related, performed}
use Rattle.sheet.specs.Legal.{LegalSheet}
use Rattle.sheet.proofs.Answers.{entering_reply}
use Rattle.sheet.proofs.Legal.{reply_passes, Left, Stored, entering_cases, entered_formulas, legal_sheet}
use Rattle.exactness.specs.Systems.{entered, sheets, covered_of, giving, gives, given_after}
use Rattle.exactness.specs.Beginnings.{start_of, given_of, AfterEveryRun}
use Rattle.exactness.specs.Lists.{Condition3, EveryState, EitherReading, ConflictAndLoop, EnteringNeverConflict, FormulasFit, ValuesWithin, ValuesRight, OutOfRangeWhereNone, FormulasGiven, HeldRight, ZeroAtOpening, OthersKeepValues}
use Rattle.exactness.proofs.Beginnings.{begun_sound, begun_legal, begun_given}
use Rattle.exactness.proofs.Values.{entered_exactly}
use Rattle.exactness.proofs.Solutions.{out_of_range_exactly, values_only}

-- ---- the store

abbrev pub SoundRun : Run sheets → Type 0
SoundRun r = Sound r.store r.state.panel

-- after an answer: the store as it was, or with the command entered
abbrev SoundAfter : Store → Store → Answer → Type 0
SoundAfter b d a = Sound (cond (is_refusal a.reply) b d) a.sheet.panel

either : (b : Store) (c : Bool) → cond c b b ≡ b
either b true = refl
either b false = refl

sheet_sound : (b : Store) (s : Sheet) (c : Command) → Sound b s.panel → SoundAfter b (entered b c) (performed s c)
sheet_sound b s (solving c) x = performed_sound b s.panel c x
sheet_sound b s (entering f v) x = go (entering_cases s f v)
  where
    go : Left s (performed s (entering f v)) ⊎ Stored s f v (performed s (entering f v)) → SoundAfter b (store.entered b (touching f)) (performed s (entering f v))
    go (inl l) = rw (l.refusal, l.same) x
    go (inr a) = subst (SoundAfter b (store.entered b (touching f))) (sym a.is) (rw a.touched at (performed_sound b s.panel (touching f) x))
sheet_sound b s (relating id formula) x = subst (λ (d : Store). Sound d s.panel) (sym (either b (is_refusal (performed s (relating id formula)).reply))) x

sound_kept : (r : Run sheets) (c : Command) → SoundRun r → SoundRun (stepped sheets r c)
unfolding stepped
sound_kept r c x = sheet_sound r.store r.state c x

pub condition_3 : Condition3
condition_3 x = every_system sheets SoundRun sound_kept (λ r h. sound_optimal h) (start_of x) (begun_sound x)

pub sound_after : AfterEveryRun SoundRun
sound_after x = kept_after sheets SoundRun sound_kept (start_of x) (begun_sound x)

pub every_state : EveryState
every_state x commands = let h = sound_after x commands in (sound_settled h, h.unblocked, optimal_best (condition_3 x commands))

pub either_reading : EitherReading
either_reading x commands = looks_alike (sound_after x commands)

pub conflict_and_loop : ConflictAndLoop
conflict_and_loop x commands = let h = sound_after x commands in (sound_conflict_exactly h, sound_change_conflict_exactly h, command_exactly _ h.legal)

pub entering_never_conflict : EnteringNeverConflict
entering_never_conflict s f v =
    entering_reply (λ b. b ≡ 0xFF ∷ refusal_bytes Conflict → ⊥) s f v (touch_never_conflict s.panel f)
    (λ e. let z : ◌≡◌ {A = ℕ} 14 10 = ap (λ (b : List ℕ). at b 1) e in omega arith)
    (λ e. let z : ◌≡◌ {A = ℕ} 13 10 = ap (λ (b : List ℕ). at b 1) e in omega arith)
    (λ m l e. let z : ◌≡◌ {A = ℕ} 0x00 0xFF = ap (λ (b : List ℕ). at b 0) e in omega arith)

-- ---- legal sheets

abbrev pub LegalRun : Run sheets → Type 0
LegalRun r = LegalSheet r.state

legal_kept : (r : Run sheets) (c : Command) → LegalRun r → LegalRun (stepped sheets r c)
unfolding stepped
legal_kept r c h = legal_sheet r.state h c

pub legal_after : AfterEveryRun LegalRun
legal_after x = kept_after sheets LegalRun legal_kept (start_of x) (begun_legal x)

pub formulas_fit : FormulasFit
formulas_fit x commands = (legal_after x commands).fits

pub values_within : ValuesWithin
values_within x commands = (legal_after x commands).within

pub values_right : ValuesRight
values_right x commands = entered_exactly _ (legal_after x commands)

pub out_of_range_where_none : OutOfRangeWhereNone
out_of_range_where_none x commands = let h = legal_after x commands in (out_of_range_exactly _ h, values_only _ h)

-- ---- formulas, as the commands gave them

module _ (s : Sheet) (h : LegalSheet s) (given : ℕ → Rule) (same : (k : ℕ) → formula_at s.formulas k ≡ given k) where
  -- another formula at a number, read there and elsewhere
  put : (id : ℕ) (formula : Rule) → id < 128 → (k : ℕ) → formula_at (with_formula s.formulas id formula) k ≡ cond (eqb k id) formula (given k)
  put id formula l k = go (ℕ_discrete k id)
    where
      go : Dec (k ≡ id) → formula_at (with_formula s.formulas id formula) k ≡ cond (eqb k id) formula (given k)
      go (yes d) =
          ap (λ (i : ℕ). formula_at (with_formula s.formulas id formula) i) d
          ∙ get_or-set_same s.formulas id formula None (omega (arith, h.formulas_length))
          ∙ sym (rw (eq-eqb k id d) refl)
      go (no d) =
          get_or-set_other s.formulas id k formula None d
          ∙ same k ∙ sym (rw (ne_eqb k id d) refl)

  module _ (b : Store) (agrees : Agrees b s.panel) where
    -- a link that is in use covers what the store says
    covers : (id : ℕ) → (link_at s.panel.links id).used ≡ true → covered_of (b.links id) ≡ (link_at s.panel.links id).covered
    covers id u = ap covered_of (agrees.links id) ∙ go (link_at s.panel.links id) (used_force (link_at s.panel.links id) u)
      where
        go : (l : Link) → is_in_force l ≡ true → covered_of (entry_of l) ≡ l.covered
        go l e = rw e refl

    -- one command more
    given_step : (c : Command) (k : ℕ) → formula_at (performed s c).sheet.formulas k ≡ cond (is_refusal (performed s c).reply) given (gives b given c) k
    given_step (solving c) k = go (is_refusal (panel.performed s.panel c).reply) refl c refl
      where
        go : (t : Bool) → is_refusal (panel.performed s.panel c).reply ≡ t → (d : panel.Command) → c ≡ d
            → formula_at (cond t s.formulas (formulas_after s d)) k ≡ cond t given (gives b given (solving d)) k
        go true e d i = same k
        go false e (opening n) i = same k
        go false e (adding id level bytes) i = same k
        go false e (removing id) i = put id None (removed_number s.panel id (rw i at e)) k
        go false e (touching f) i = same k
        go false e planning i = same k
        go false e (changing id level bytes) i =
            let passed = changed_passes s.panel id level bytes (rw i at e) in
            rw (covers id (removable s.panel id (change_removes s.panel id level bytes passed)).used)
            (either_covers (changeable s.panel id level bytes passed).number (eqb (link_at s.panel.links id).covered (covered_in bytes)))
          where
            either_covers : id < 128 → (t : Bool) → formula_at (cond t s.formulas (with_formula s.formulas id None)) k ≡ cond t given (giving given id None) k
            either_covers l true = same k
            either_covers l false = put id None l k
    given_step (entering f v) k = ap (λ (x : List Rule). formula_at x k) (entered_formulas s f v) ∙ same k ∙ sym (always (is_refusal (performed s (entering f v)).reply))
      where
        always : (t : Bool) → cond t given given k ≡ given k
        always true = refl
        always false = refl
    given_step (relating id formula) k = go (check_reply cs) refl (is_refusal (check_reply cs)) refl
      where
        cs : List Check
        cs = formula_checks s.panel id formula

        go : (reply : List ℕ) → check_reply cs ≡ reply → (t : Bool) → is_refusal reply ≡ t
            → formula_at (related s id formula reply).sheet.formulas k ≡ cond (is_refusal reply) given (giving given id formula) k
        go reply e true t = rw t (same k)
        go reply e false t = rw t (put id formula (omega (arith, ltb-false 127 id (reply_passes cs (rw e t)).1.0)) k)

given_after_lem : (commands : List Command) (r : Run sheets) → LegalRun r → SoundRun r → (given : ℕ → Rule) → ((k : ℕ) → formula_at r.state.formulas k ≡ given k)
    → (k : ℕ) → formula_at (store.after sheets r commands).state.formulas k ≡ given_after r given commands k
unfolding store.after given_after stepped
given_after_lem [] r h x given same k = same k
given_after_lem (c ∷ cs) r h x given same k =
    given_after_lem cs (stepped sheets r c) (legal_kept r c h) (sound_kept r c x) (cond (is_refusal (performed r.state c).reply) given (gives r.store given c))
    (given_step r.state h given same r.store x.agrees c) k

pub formulas_given : FormulasGiven
formulas_given x commands = given_after_lem commands (start_of x) (begun_legal x) (begun_sound x) (given_of x) (begun_given x)

-- ---- what Plan answers

-- a link of what a legal panel holds stands so in its record
held_link : (q : Panel) → Legal q → (i g : ℕ) → In (record { item = link i; field = g }) (held (panel.performed q planning).reply)
    → (i < 128) × ((link_at q.links i).standing ≡ Holding g)
held_link q k i g m =
    let (j, e) = pair_setter (setters_of q) (plan_of q) (record { item = link i; field = g }) (rw (held_pairs q k) at m) in
    let (n, l) = setter_number q.setter g i (sym e) in
    let low : g < q.size = all_in (λ f. f < q.size) (plan_of q) g (plan_whole q k.few k.loopless).below j in
    (l, ap (λ (x : ℕ). (link_at q.links x).standing) (sym n) ∙ k.setter_holds g (omega (arith, k.few)) (omega arith))

-- and so does a stay
held_stay : (q : Panel) → Legal q → (g : ℕ) → In (record { item = stay g; field = g }) (held (panel.performed q planning).reply)
    → (g < q.size) × (at q.setter g ≡ 128)
held_stay q k g m =
    let (j, e) = pair_setter (setters_of q) (plan_of q) (record { item = stay g; field = g }) (rw (held_pairs q k) at m) in
    let low : g < q.size = all_in (λ f. f < q.size) (plan_of q) g (plan_whole q k.few k.loopless).below j in
    (low, omega (arith, (setter_own q.setter g g (sym e)).1, k.setter_small g (omega (arith, k.few))))

-- what stands in the store of a link has its covered fields
entry_covered : {b : Store} {p : Panel} → Agrees b p → (i : ℕ) (e : Entry) → b.links i ≡ some e → (link_at p.links i).covered ≡ e.covered
entry_covered {b} {p} a i e q =
    let (u, d) = entry_force (λ o. o ≡ some e) (λ n. let z : ◌≡◌ {A = ℕ} 0 1 = cc in omega arith) (link_at p.links i) (sym (a.links i) ∙ q) in
    let same : entry_for (link_at p.links i) ≡ e = cc in
    ap (λ (x : Entry). x.covered) same

pub held_right : HeldRight
held_right b commands f v ok =
    let r = store.after sheets (start_of b) commands in
    let a = performed r.state (entering f v) in
    let h = legal_after b commands in
    let k = (legal_sheet r.state h (entering f v)).panel in
    let x = entered_exactly r.state h f v ok in
    let given : (i : ℕ) → formula_at a.sheet.formulas i ≡ given_after (start_of b) (given_of b) commands i =
    λ i. ap (λ (y : List Rule). formula_at y i) (entered_formulas r.state f v) ∙ formulas_given b commands i in
    let agrees : Agrees (store.entered r.store (touching f)) a.sheet.panel = (rw ok at (sheet_sound r.store r.state (entering f v) (sound_after b commands))).agrees in
    record {
      stored = x.stored;
      right = λ i g e m entry.
          let (l, s) = held_link a.sheet.panel k i g m in
          rw (← given i, ← entry_covered agrees i e entry) (x.right i g l s);
      link_keeps = λ i g m none. let (l, s) = held_link a.sheet.panel k i g m in x.link_keeps i g l s (given i ∙ none);
      stay_keeps = λ g m d. let (l, s) = held_stay a.sheet.panel k g m in x.stay_keeps g l s d;
    }

-- ---- values

pub zero_at_opening : ZeroAtOpening
zero_at_opening x commands n f e =
    let s = (store.after sheets (start_of x) commands).state in
    (legal_after x commands).past f (omega (arith, opened_unopened s.panel n e))

pub others_keep_values : OthersKeepValues
others_keep_values s = (λ c. refl, λ id formula. refl)
