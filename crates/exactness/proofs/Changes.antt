-- Kind 06 by kinds 03 and 02. The reply and the panel by the cases of a change (`change_cases`): a check applies (`checked_refusal`), the removal is
-- refused, or the change is answered as the add to what the removal leaves; the refusals behind the checks by the steps (`removal_loop`,
-- `add_conflict_or_loop`). The formulas by cases on the covered fields.
use Prim.Native.Nat.{ℕ, ◌^◌, ◌<◌}
use mathlib.Core.Path.{◌≡◌, refl, ap, ◌∙◌}
use mathlib.Core.Bool.{Bool, true, false, cond}
use mathlib.Core.List.{List, [], ◌∷◌}
use mathlib.Core.Logic.{◌≢◌, ◌⊎◌, inl, inr, ⊎_elim}
use native.Mathlib.Omega.{arith}
use borrow.Author.Tests.{eqb-true, eq-eqb}
use lib.Dec.{eqb}
use lib.Seq.{get_or-set_same, get_or-set_other}
use Rattle.std.specs.Prelude.{None}
use Rattle.fieldset.specs.Fields.{member}
use Rattle.fieldset.proofs.Numbers.{clash}
use Rattle.fieldset.proofs.Fields.{ext_member}
use Rattle.panel.specs.declared.Panel.{Panel}
use Rattle.panel.specs.Items.{link_at}
use Rattle.panel.specs.Answers as answers
use Rattle.panel.specs.Answers.{is_refusal}
use Rattle.panel.specs.Moved.{moved}
use Rattle.panel.specs.Steps.{change_step}
use Rattle.panel.specs.Commands as panel
use Rattle.panel.specs.Commands.{changing, Passes, change_checks, check_reply, covered_in, outputs_in}
use Rattle.panel.specs.Legal.{Legal}
use Rattle.panel.proofs.Checks.{checked_refusal, removable, changeable, change_removes, change_adds, fields_lt}
use Rattle.panel.proofs.Performed.{changed_passes, without_unused}
use Rattle.panel.proofs.Changing as panels
use Rattle.panel.proofs.Changing.{Cases, change_cases}
use Rattle.formulas.specs.Formulas.{Rule}
use Rattle.sheet.specs.declared.Sheet.{Sheet}
use Rattle.sheet.specs.Sheets.{formula_at, with_formula}
use Rattle.sheet.specs.Commands.{solving, performed}
use Rattle.sheet.specs.Legal.{LegalSheet}
use Rattle.sheet.proofs.Legal.{reply_passes}
use Rattle.optimality.proofs.Answers.{removal_loop, add_conflict_or_loop}
use Rattle.exactness.specs.Changes.{ChangeExactly, ChangesExactly}
use Rattle.exactness.proofs.Values.{refused_sheet_unchanged}
use Rattle.exactness.proofs.Lists.{legal_after}

module _ (p : Panel) (h : Legal p) (id level : ℕ) (bytes : List ℕ) where
  abbrev removal : answers.Answer
  removal = panels.removal p id level bytes

  abbrev addition : answers.Answer
  addition = panels.addition p id level bytes

  abbrev change : answers.Answer
  change = panels.change p id level bytes

  abbrev checks : List ℕ
  checks = check_reply (change_checks p id level bytes)

  -- the reply, and the panel where it is no refusal
  abbrev Said : Bool → Bool → Bool → Type 0
  Said c r a =
      (change.reply ≡ cond c checks (cond r removal.reply (cond a addition.reply (0x00 ∷ moved p addition.panel ∷ []))))
      × (is_refusal change.reply ≡ false → change.panel ≡ addition.panel)

  passed_said : Passes (change_checks p id level bytes) → Said false (is_refusal removal.reply) (is_refusal addition.reply)
  passed_said n = go (change_cases p id level bytes h n)
    where
      go : Cases p id level bytes → Said false (is_refusal removal.reply) (is_refusal addition.reply)
      go (inl (r, same, is)) = rw r (ap (λ (a : answers.Answer). a.reply) is, λ e. absurd (clash (ap (λ (a : answers.Answer). is_refusal a.reply) is ∙ r) e))
      go (inr (r, w, inl (x, ec, ea))) = rw (r, ea) (ap (λ (a : answers.Answer). a.reply) ec, λ e. absurd (clash (ap (λ (a : answers.Answer). is_refusal a.reply) ec) e))
      go (inr (r, w, inr (t, ec, ea))) = rw (r, ea) (ap (λ (a : answers.Answer). a.reply) ec, λ e. ap (λ (a : answers.Answer). a.panel) ec)

  said : Said (is_refusal checks) (is_refusal removal.reply) (is_refusal addition.reply)
  said = go (is_refusal checks) refl
    where
      refuses : is_refusal checks ≡ true → change ≡ record { panel = p; reply = checks }
      refuses = checked_refusal p (change_checks p id level bytes) (change_step p id level (covered_in bytes) (outputs_in bytes))

      go : (c : Bool) → is_refusal checks ≡ c → Said c (is_refusal removal.reply) (is_refusal addition.reply)
      go true e = (ap (λ (a : answers.Answer). a.reply) (refuses e), λ n. absurd (clash (ap (λ (a : answers.Answer). is_refusal a.reply) (refuses e) ∙ e) n))
      go false e = passed_said (reply_passes (change_checks p id level bytes) e)

  -- the refusals behind the checks
  loop_only : is_refusal checks ≡ false → is_refusal removal.reply ≡ true → removal.reply ≡ 0xFF ∷ 0x0B ∷ []
  loop_only n e =
      ap (λ (a : answers.Answer). a.reply)
      (removal_loop p id (change_removes p id level bytes (reply_passes (change_checks p id level bytes) n)) e)

  conflict_or_loop : is_refusal checks ≡ false → is_refusal removal.reply ≡ false → is_refusal addition.reply ≡ true
      → (addition.reply ≡ 0xFF ∷ 0x0A ∷ []) ⊎ (addition.reply ≡ 0xFF ∷ 0x0B ∷ [])
  conflict_or_loop n r e = go (change_cases p id level bytes h passed)
    where
      passed : Passes (change_checks p id level bytes)
      passed = reply_passes (change_checks p id level bytes) n

      go : Cases p id level bytes → (addition.reply ≡ 0xFF ∷ 0x0A ∷ []) ⊎ (addition.reply ≡ 0xFF ∷ 0x0B ∷ [])
      go (inl (f, same, is)) = absurd (clash f r)
      go (inr (f, w, a)) =
          ⊎_elim (λ x. inl (ap (λ (a : answers.Answer). a.reply) x)) (λ x. inr (ap (λ (a : answers.Answer). a.reply) x))
          (add_conflict_or_loop removal.panel id level bytes
          (change_adds p id level bytes passed removal.panel w.size (without_unused w h (changeable p id level bytes passed).number)) e)

-- ---- formulas

module _ (s : Sheet) (h : LegalSheet s) (id level : ℕ) (bytes : List ℕ) where
  abbrev old : ℕ
  old = (link_at s.panel.links id).covered

  -- a change that is accepted has a link in use
  module _ (accepts : is_refusal (panel.performed s.panel (changing id level bytes)).reply ≡ false) where
    passed : Passes (change_checks s.panel id level bytes)
    passed = changed_passes s.panel id level bytes accepts

    number_small : id < 128
    number_small = (changeable s.panel id level bytes passed).number

    old_small : old < 2 ^ 64
    old_small = (h.panel.formed id number_small (removable s.panel id (change_removes s.panel id level bytes passed)).used).small

    keeps : ((f : ℕ) → f < 64 → member old f ≡ member (covered_in bytes) f) → formula_at (performed s (solving (changing id level bytes))).sheet.formulas id ≡ formula_at s.formulas id
    keeps same = rw (accepts, eq-eqb old (covered_in bytes) (ext_member 64 old (covered_in bytes) old_small (fields_lt (λ b. true) bytes) same)) refl

    drops : (f : ℕ) → member old f ≢ member (covered_in bytes) f → formula_at (performed s (solving (changing id level bytes))).sheet.formulas id ≡ None
    drops f differ = rw accepts (go (eqb old (covered_in bytes)) refl)
      where
        go : (b : Bool) → eqb old (covered_in bytes) ≡ b → formula_at (cond b s.formulas (with_formula s.formulas id None)) id ≡ None
        go true e = absurd (differ (ap (λ (m : ℕ). member m f) (eqb-true old (covered_in bytes) e)))
        go false e = get_or-set_same s.formulas id None None (omega (arith, h.formulas_length, number_small))

  leaves : (k : ℕ) → k ≢ id → formula_at (performed s (solving (changing id level bytes))).sheet.formulas k ≡ formula_at s.formulas k
  leaves k d = go (is_refusal (panel.performed s.panel (changing id level bytes)).reply) (eqb old (covered_in bytes))
    where
      go : (r b : Bool) → formula_at (cond r s.formulas (cond b s.formulas (with_formula s.formulas id None))) k ≡ formula_at s.formulas k
      go true b = refl
      go false true = refl
      go false false = get_or-set_other s.formulas id k None None d

  exactly : ChangeExactly s id level bytes
  exactly =
      let x = said s.panel h.panel id level bytes in
      record {
        reply = x.0;
        removal_loop = loop_only s.panel h.panel id level bytes;
        adding_conflict_or_loop = conflict_or_loop s.panel h.panel id level bytes;
        unchanged = refused_sheet_unchanged s (solving (changing id level bytes));
        panel = x.1;
        values = refl;
        kept = keeps;
        dropped = λ e f l. drops e f;
        others = leaves;
      }

pub changes_exactly : ChangesExactly
changes_exactly x commands id level bytes = exactly _ (legal_after x commands) id level bytes
