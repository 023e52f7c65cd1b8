-- What a change comes to, from its halves: refused by its checks (`checks_refused`), with the removal (`removal_refused`) or with the add
-- (`addition_refused`), else the panel of both (`both_accepted`), with the count from the first panel to the last (`count_is`).
use Prim.Native.Nat.{ℕ, ◌%◌}
use mathlib.Core.Path.{◌≡◌, refl, sym, ap, ◌∙◌, subst}
use mathlib.Core.Bool.{Bool, false, not, cond}
use mathlib.Core.Logic.{inl, inr}
use mathlib.Core.List.{List, [], ◌∷◌}
use native.Mathlib.Omega.{arith}
use lib.Dec.{eqb}
use Rattle.fieldset.specs.Tables.{at}
use Rattle.fieldset.specs.Fields.{size}
use Rattle.fieldset.proofs.Numbers.{clash}
use Rattle.fieldset.proofs.Fields.{set_of_lt, member_setOf_lt}
use Rattle.panel.specs.declared.Link.{Link}
use Rattle.panel.specs.declared.Panel.{Panel}
use Rattle.panel.specs.declared.Refusal.{Refusal}
use Rattle.panel.specs.declared.Refusal.TheVariants.{NoSuchLink}
use Rattle.panel.specs.Answers.{Reply}
use Rattle.std.specs.Prelude.{Option, Ok, Err}
use Rattle.std.specs.Bool.{then_some}
use Rattle.panel.specs.Items.{link_at}
use Rattle.panel.specs.Answers.{Answer, is_refusal, refused, reply_bytes}
use Rattle.panel.specs.Moved.{turned, moved}
use Rattle.panel.specs.Steps.{accepted, change_step}
use Rattle.panel.specs.Commands.{Check, check, check_reply, Passes, covered_in, outputs_in, add_checks, change_checks, adding, removing, changing, performed}
use Rattle.panel.specs.Outcomes.{counted, redrawn_by}
use Rattle.panel.specs.Legal.{Legal}
use Rattle.panel.proofs.Checks.{Agree, agree_reply, reply_refused, reply_accepted, named_link, changeable, change_adds}
use Rattle.panel.proofs.Performed.{legal_performed, performed_size, without_unused}
use Rattle.panel.proofs.Changing.{Alike, Cases, change_cases}
use Rattle.panel.proofs.Moved.{turned_is, turned_none, redrawn_by_lem, counted_none}
use Rattle.tables.specs.declared.Tables.{Tables}
use Rattle.tables.specs.Tables.{TablesOf}
use Rattle.fieldbytes.specs.Bytes.{FieldsOf}
use Rattle.adding.specs.Checks.{number_check, check_link}
use Rattle.adding.proofs.Adding.{number_told, link_agree}
use Rattle.removing.specs.Scans.{scan_count}
use Rattle.changing.specs.Changed.{changed_fields, change_count, Changes}

-- ---- the checks

module _ (p : Panel) (id level : ℕ) (bytes : List ℕ) (c o : ℕ) (r : Bool) (f : FieldsOf bytes c o r) (old : Link) (same : old ≡ link_at p.links (id % 128))
    (reply : Reply) (number : Option Refusal) (named : number ≡ then_some (not old.used) NoSuchLink)
    (told : reply_bytes reply ≡ check_reply (check_link p.size id level c o r (number_check number))) where
  abbrev own : List Check
  own = check_link p.size id level c o r (check (not old.used) NoSuchLink)

  checks : reply_bytes reply ≡ check_reply own
  checks = told ∙ number_told p.size id level c o r (not old.used) NoSuchLink number named

  agree : Agree own (change_checks p id level bytes)
  agree =
      link_agree p id level bytes c o r f (not old.used) (not (link_at p.links id).used) NoSuchLink
      (λ l. ap (λ (x : Link). not x.used) (named_link p.links id old same l))

  abbrev step : Answer
  step = change_step p id level (covered_in bytes) (outputs_in bytes)

  scan_counted : (n : ℕ) → cond (is_refusal (reply_bytes reply)) n (scan_count n p id) ≡ change_count n p id level bytes
  unfolding change_count
  scan_counted n = ap (λ (b : List ℕ). cond (is_refusal b) n (scan_count n p id)) (checks ∙ agree_reply own (change_checks p id level bytes) agree)

  pub checks_refused : (x : Refusal) → reply ≡ Err x → refused p x ≡ performed p (changing id level bytes)
  checks_refused = reply_refused p own (change_checks p id level bytes) step agree reply checks

  pub count_refused : (x : Refusal) → reply ≡ Err x → (n : ℕ) → n ≡ change_count n p id level bytes
  count_refused x e n = rw e at (scan_counted n)

  pub checks_passed : (m : ℕ) → reply ≡ Ok m → Passes (change_checks p id level bytes)
  checks_passed m e = (reply_accepted p own (change_checks p id level bytes) step agree reply checks m e).1

  pub count_passed : (m : ℕ) → reply ≡ Ok m → (n : ℕ) → scan_count n p id ≡ change_count n p id level bytes
  count_passed m e n = rw e at (scan_counted n)

-- a refusal leaves the panel, its tables and every setter
pub refused_changes : (p : Panel) (id level : ℕ) (bytes : List ℕ) (tables : Tables) (before worked : ℕ) (x : Refusal)
    → refused p x ≡ performed p (changing id level bytes) → TablesOf p tables → worked ≡ change_count before p id level bytes
    → Changes p id level bytes tables before worked p (Err x)
refused_changes p id level bytes tables before worked x is tabled scan = record {
  panel = ap (λ (a : Answer). a.panel) is;
  changed = sym (turned_none p p refl);
  reply = ap (λ (a : Answer). a.reply) is;
  uncounted = tt;
  tabled = tabled;
  scan = scan;
}

-- ---- the halves

module _ (p : Panel) (h : Legal p) (id level : ℕ) (bytes : List ℕ) (passed : Passes (change_checks p id level bytes)) where
  abbrev removal : Answer
  removal = performed p (removing id)

  abbrev change : Answer
  change = performed p (changing id level bytes)

  pub removal_refused : (x : Refusal) → removal ≡ refused p x → refused p x ≡ change
  removal_refused x e = go (change_cases p id level bytes h passed)
    where
      go : Cases p id level bytes → refused p x ≡ change
      go (inl (r, same, is)) = sym (is ∙ e)
      go (inr (r, w, a)) = absurd (clash (ap (λ (a : Answer). is_refusal a.reply) e) r)

  -- the removal is accepted, and leaves q
  module _ (goes : is_refusal removal.reply ≡ false) (q : Panel) (leaves : removal.panel ≡ q) where
    pub legal_between : Legal q
    legal_between = subst Legal leaves (legal_performed p (removing id) h)

    pub adds_between : Passes (add_checks q id level bytes)
    adds_between = go (change_cases p id level bytes h passed)
      where
        go : Cases p id level bytes → Passes (add_checks q id level bytes)
        go (inl (r, same, is)) = absurd (clash r goes)
        go (inr (r, w, a)) =
            subst (λ (q : Panel). Passes (add_checks q id level bytes)) leaves
            (change_adds p id level bytes passed removal.panel w.size (without_unused w h (changeable p id level bytes passed).number))

    alike : Alike p q change (performed q (adding id level bytes))
    alike = go (change_cases p id level bytes h passed)
      where
        go : Cases p id level bytes → Alike p q change (performed q (adding id level bytes))
        go (inl (r, same, is)) = absurd (clash r goes)
        go (inr (r, w, a)) = subst (λ (q : Panel). Alike p q change (performed q (adding id level bytes))) leaves a

    pub addition_refused : (x : Refusal) → performed q (adding id level bytes) ≡ refused q x → refused p x ≡ change
    addition_refused x e = go alike
      where
        go : Alike p q change (performed q (adding id level bytes)) → refused p x ≡ change
        go (inl (y, is, e')) = ap (λ (a : Answer). record { panel = p; reply = a.reply }) (sym e ∙ e') ∙ sym is
        go (inr (r, is, e')) = absurd (clash (ap (λ (a : Answer). is_refusal a.reply) e) (ap (λ (a : Answer). is_refusal a.reply) e'))

    pub both_accepted : is_refusal (performed q (adding id level bytes)).reply ≡ false → (r : Panel) → (performed q (adding id level bytes)).panel ≡ r
        → accepted p r ≡ change
    both_accepted accepts r e = go alike
      where
        go : Alike p q change (performed q (adding id level bytes)) → accepted p r ≡ change
        go (inl (y, is, e')) = absurd (clash (ap (λ (a : Answer). is_refusal a.reply) e') accepts)
        go (inr (t, is, e')) = ap (accepted p) (sym e ∙ ap (λ (a : Answer). a.panel) e') ∙ sym is

  -- the fields whose setter changed, and the count, from the setters before and after
  module _ (r : Panel) (e : change.panel ≡ r) (m : ℕ) (is : m ≡ changed_fields p.setter r.setter) where
    legal : Legal r
    legal = subst Legal e (legal_performed p (changing id level bytes) h)

    same : r.size ≡ p.size
    same = ap (λ (x : Panel). x.size) (sym e) ∙ performed_size p (changing id level bytes) (changeable p id level bytes passed).is_open

    pub changed_is : m ≡ turned p r
    changed_is =
        turned_is p r m legal.few (rw is (set_of_lt (λ f. not (eqb (at p.setter f) (at r.setter f))) 64))
        (λ f l. rw is (member_setOf_lt (λ f. not (eqb (at p.setter f) (at r.setter f))) 64 f l))
        (λ f a b. h.setter_past f (omega (arith, same)) b ∙ sym (legal.setter_past f a b))

    pub count_is : reply_bytes (counted (Ok 0) (redrawn_by m 0 r)) ≡ 0x00 ∷ moved p r ∷ []
    unfolding moved
    count_is = counted_none (redrawn_by m 0 r) ∙ ap (λ (x : ℕ). 0x00 ∷ size x ∷ []) (redrawn_by_lem p r m legal.few changed_is)
