-- What holds of values (document 02, request 2): statements. Quotations are of that request.
use Rattle.std.specs.Prelude.{ℕ, ◌≤◌, ◌<◌, ◌≡◌, true, false, List, [], ◌∷◌, ◌≢◌, ◌↔◌, ℤ, set, None}
use Rattle.fieldset.specs.Tables.{at}
use Rattle.fieldset.specs.Fields.{size}
use Rattle.panel.specs.declared.Link.{Link}
use Rattle.panel.specs.declared.Refusal.{Refusal}
use Rattle.panel.specs.declared.Refusal.TheVariants.{NotOpen, BadLink, NoSuchField, NoSuchLink, OutOfRange, FieldDriven, BadFormula}
use Rattle.panel.specs.declared.Standing.TheVariants.{Holding}
use Rattle.panel.specs.Items.{link_at}
use Rattle.panel.specs.Answers as answers
use Rattle.panel.specs.Answers.{refusal_bytes, is_refusal}
use Rattle.panel.specs.Commands as panel
use Rattle.panel.specs.Commands.{touching}
use Rattle.values.specs.Limits.{value_at, outside}
use Rattle.values.specs.Ratios.{scaled, Nearest}
use Rattle.formulas.specs.Formulas.{Rule, accepted, Right}
use Rattle.sheet.specs.declared.Sheet.{Sheet}
use Rattle.sheet.specs.Sheets.{sheet_of, formula_at, evaluated}
use Rattle.sheet.specs.Commands.{Command, entering, relating, is_driven, redrawn, sum_past, performed}

-- ---- rounding

-- "rounded to nearest, halves away from zero", said without division (`Nearest`): x is such a whole number, and there is no other
pub record RoundedTo (v : ℤ) (p q : ℕ) (x : ℤ) : Type 0 where
  pub nearest : Nearest v p q x
  pub only : (y : ℤ) → Nearest v p q y → y ≡ x

-- so is what a ratio comes to
abbrev pub EveryRatio : Type 0
EveryRatio = (v : ℤ) (p q : ℕ) → 0 < q → RoundedTo v p q (scaled v p q)

-- ---- kind 07

-- from one sheet to another, where v was entered in f
pub record Exact (before after : Sheet) (f : ℕ) (v : ℤ) : Type 0 where
  -- "stores the value"
  pub stored : value_at after.values f ≡ v
  -- "each held formula is right, only for the field it sets": link i sets field g, between the values afterwards
  pub right : (i g : ℕ) → i < 128 → (link_at after.panel.links i).standing ≡ Holding g
      → Right (formula_at after.formulas i) (link_at after.panel.links i).covered g (value_at after.values)
  -- "a link without formula, and a stay, keeps the value"
  pub link_keeps : (i g : ℕ) → i < 128 → (link_at after.panel.links i).standing ≡ Holding g → formula_at after.formulas i ≡ None
      → value_at after.values g ≡ value_at before.values g
  pub stay_keeps : (g : ℕ) → g < after.panel.size → at after.panel.setter g ≡ 128 → g ≢ f → value_at after.values g ≡ value_at before.values g

-- "After an accepted kind 07"
abbrev pub EnteredExactly : Sheet → Type 0
EnteredExactly s = (f : ℕ) (v : ℤ) → is_refusal (performed s (entering f v)).reply ≡ false → Exact s (performed s (entering f v)).sheet f v

-- what the touch of f alone gives
abbrev pub touched : Sheet → ℕ → answers.Answer
touched s f = panel.performed s.panel (touching f)

-- it "touches f": where it is accepted, it leaves the panel as the touch does, and formulas stay; it replies 00 and the count of what is redrawn
-- (request 6)
pub record AsTouched (s : Sheet) (f : ℕ) (v : ℤ) : Type 0 where
  pub reply : (performed s (entering f v)).reply ≡ 0x00 ∷ size (redrawn s (performed s (entering f v)).sheet) ∷ []
  pub panel : (performed s (entering f v)).sheet.panel ≡ (touched s f).panel
  pub formulas : (performed s (entering f v)).sheet.formulas ≡ s.formulas

abbrev pub EnteredAsTouched : Type 0
EnteredAsTouched = (s : Sheet) (f : ℕ) (v : ℤ) → is_refusal (performed s (entering f v)).reply ≡ false → AsTouched s f v

-- ---- when kinds 07 and 08 are refused, and when they are accepted

abbrev pub Gives : Sheet → Command → Refusal → Type 0
Gives s c r = (performed s c).reply ≡ 0xFF ∷ refusal_bytes r

-- the refusals of the touch come first; then "14 FieldDriven (a link still sets f after the touch, checked before 13)", then "13 OutOfRange (a result
-- outside the limits)" of the run over the whole plan
pub record EnteringAnswered (s : Sheet) (f : ℕ) (v : ℤ) : Type 0 where
  pub first : is_refusal (touched s f).reply ≡ true → (performed s (entering f v)).reply ≡ (touched s f).reply
  pub driven : Gives s (entering f v) FieldDriven ↔ (is_refusal (touched s f).reply ≡ false) × (is_driven (touched s f).panel f ≡ true)
  pub out : Gives s (entering f v) OutOfRange
      ↔ (is_refusal (touched s f).reply ≡ false) × (is_driven (touched s f).panel f ≡ false)
      × ((evaluated (touched s f).panel s.formulas (set s.values f v)).fits ≡ false)
  pub accepted : is_refusal (performed s (entering f v)).reply ≡ false
      ↔ (is_refusal (touched s f).reply ≡ false) × (is_driven (touched s f).panel f ≡ false)
      × ((evaluated (touched s f).panel s.formulas (set s.values f v)).fits ≡ true)

abbrev pub EnteringExactly : Type 0
EnteringExactly = (s : Sheet) (f : ℕ) (v : ℤ) → EnteringAnswered s f v

-- values that a right answer to kind 07 could have: exact, and within the limits
pub record Solution (s : Sheet) (f : ℕ) (v : ℤ) (values : List ℤ) : Type 0 where
  pub exact : Exact s (sheet_of (touched s f).panel s.formulas values) f v
  pub within : (g : ℕ) → g < (touched s f).panel.size → outside (value_at values g) ≡ false

-- where the touch is accepted and no link sets f, OutOfRange is given exactly when there are none
abbrev pub OutOfRangeExactly : Sheet → Type 0
OutOfRangeExactly s =
    (f : ℕ) (v : ℤ) → is_refusal (touched s f).reply ≡ false → is_driven (touched s f).panel f ≡ false
    → Gives s (entering f v) OutOfRange ↔ ((values : List ℤ) → Solution s f v values → ⊥)

-- and where kind 07 is accepted, its values are the only ones
abbrev pub ValuesOnly : Sheet → Type 0
ValuesOnly s =
    (f : ℕ) (v : ℤ) → is_refusal (performed s (entering f v)).reply ≡ false → (values : List ℤ) → Solution s f v values
    → (g : ℕ) → g < (touched s f).panel.size → value_at (performed s (entering f v)).sheet.values g ≡ value_at values g

-- the reply to kind 08 at a panel of n fields, where l is the link of the number: "the link, open and field checks precede", then "15 BadFormula (p or
-- q 0, wrong number of covered fields, f not covered)". No two of these cases can meet, so each reply is given in its case and in no other
pub data Relating (n id : ℕ) (l : Link) (formula : Rule) : List ℕ → Type 0 where
  not_open : n ≡ 0 → Relating n id l formula (0xFF ∷ refusal_bytes NotOpen)
  bad_link : 0 < n → 127 < id → Relating n id l formula (0xFF ∷ refusal_bytes BadLink)
  no_such_field : 0 < n → id ≤ 127 → sum_past n formula ≡ true → Relating n id l formula (0xFF ∷ refusal_bytes NoSuchField)
  no_such_link : 0 < n → id ≤ 127 → sum_past n formula ≡ false → l.used ≡ false → Relating n id l formula (0xFF ∷ refusal_bytes NoSuchLink)
  bad_formula : 0 < n → id ≤ 127 → sum_past n formula ≡ false → l.used ≡ true → accepted formula l.covered ≡ false
      → Relating n id l formula (0xFF ∷ refusal_bytes BadFormula)
  done : 0 < n → id ≤ 127 → sum_past n formula ≡ false → l.used ≡ true → accepted formula l.covered ≡ true
      → Relating n id l formula (0x00 ∷ 0x00 ∷ [])

abbrev pub RelatingExactly : Type 0
RelatingExactly =
    (s : Sheet) (id : ℕ) (formula : Rule)
    → Relating s.panel.size id (link_at s.panel.links id) formula (performed s (relating id formula)).reply

-- ---- refusals

-- "every refusal undoes the touch": panel, formulas and values are as they were
abbrev pub RefusedUnchanged : Type 0
RefusedUnchanged = (s : Sheet) (c : Command) → is_refusal (performed s c).reply ≡ true → (performed s c).sheet ≡ s
