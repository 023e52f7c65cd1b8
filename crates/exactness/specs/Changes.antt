-- Kind 06, which "removes the link and adds it anew as one" (document 02, request 5), by kinds 03 and 02: statements. Quotations are of that request.
use Rattle.std.specs.Prelude.{ℕ, ◌<◌, ◌≡◌, true, false, cond, List, [], ◌∷◌, ◌≢◌, ◌⊎◌, None}
use Rattle.fieldset.specs.Fields.{member}
use Rattle.panel.specs.Items.{link_at}
use Rattle.panel.specs.Answers.{is_refusal}
use Rattle.panel.specs.Moved.{moved}
use Rattle.panel.specs.Commands.{adding, removing, changing, change_checks, check_reply, covered_in}
use Rattle.sheet.specs.declared.Sheet.{Sheet}
use Rattle.sheet.specs.Sheets.{formula_at}
use Rattle.sheet.specs.Commands.{Answer, solving, performed}
use Rattle.exactness.specs.Beginnings.{AfterEveryRun}

module _ (s : Sheet) (id level : ℕ) (bytes : List ℕ) where
  -- the removal of the link, and its adding to what the removal leaves
  abbrev pub removal : Answer
  removal = performed s (solving (removing id))

  abbrev pub addition : Answer
  addition = performed removal.sheet (solving (adding id level bytes))

  abbrev pub change : Answer
  change = performed s (solving (changing id level bytes))

  -- what the checks of the change reply: "Add's checks up to LinkTaken .., with NoSuchLink in LinkTaken's place"
  abbrev pub checks : List ℕ
  checks = check_reply (change_checks s.panel id level bytes)

  pub record ChangeExactly : Type 0 where
    -- the checks "come first, .. then the removal's Loop, then the adding's Conflict or Loop": the first of these refusals; where there is none, 00
    -- and the moved count, which "compares the state before with the state after both"
    pub reply :
        change.reply
        ≡ cond (is_refusal checks) checks
        (cond (is_refusal removal.reply) removal.reply
        (cond (is_refusal addition.reply) addition.reply
        (0x00 ∷ moved s.panel addition.sheet.panel ∷ [])))
    -- behind the checks the removal's refusal is Loop, and the add's is Conflict or Loop
    pub removal_loop : is_refusal checks ≡ false → is_refusal removal.reply ≡ true → removal.reply ≡ 0xFF ∷ 0x0B ∷ []
    pub adding_conflict_or_loop : is_refusal checks ≡ false → is_refusal removal.reply ≡ false → is_refusal addition.reply ≡ true
        → (addition.reply ≡ 0xFF ∷ 0x0A ∷ []) ⊎ (addition.reply ≡ 0xFF ∷ 0x0B ∷ [])
    -- "a refusal changes nothing"
    pub unchanged : is_refusal change.reply ≡ true → change.sheet ≡ s
    -- where both parts are accepted, the panel is theirs
    pub panel : is_refusal change.reply ≡ false → change.sheet.panel ≡ addition.sheet.panel
    pub values : change.sheet.values ≡ s.values
    -- "its formula kept if the covered fields are the same, else dropped"
    pub kept : is_refusal change.reply ≡ false
        → ((f : ℕ) → f < 64 → member (link_at s.panel.links id).covered f ≡ member (covered_in bytes) f)
        → formula_at change.sheet.formulas id ≡ formula_at s.formulas id
    pub dropped : is_refusal change.reply ≡ false
        → (f : ℕ) → f < 64 → member (link_at s.panel.links id).covered f ≢ member (covered_in bytes) f
        → formula_at change.sheet.formulas id ≡ None
    pub others : (k : ℕ) → k ≢ id → formula_at change.sheet.formulas k ≡ formula_at s.formulas k

-- of every sheet that a run leads to, and every change
abbrev pub ChangesExactly : Type 0
ChangesExactly = AfterEveryRun (λ r. (id level : ℕ) (bytes : List ℕ) → ChangeExactly r.state id level bytes)
