-- What a saved text says, line by line, and when it is a BadImage (document 02, request 7): statements. Quotations are of that request.
use Rattle.std.specs.Prelude.{ℕ, ◌<◌, ◌≡◌, true, false, not, List, [], ◌∷◌, ◌++◌, map, ◌≢◌, ◌⊎◌, ◌↔◌, eqb, ℤ, pos, length}
use Rattle.fieldset.specs.Lists.{In, All, Distinct, passing}
use Rattle.fieldset.specs.Fields.{member}
use Rattle.panel.specs.Panels.{opened}
use Rattle.panel.specs.Commands.{covered_in, outputs_in, Passes, check_open, add_checks}
use Rattle.values.specs.Limits.{outside}
use Rattle.values.specs.Words.{bits_of}
use Rattle.formulas.specs.Formulas.{Rule}
use Rattle.sheet.specs.Commands.{check_formula}
use Rattle.frames.specs.Texts.{written}
use Rattle.frames.specs.Frames.{formula_bytes}
use Rattle.images.specs.Images.{four_bytes}
use Rattle.images.specs.Reading.{is_bad}

-- ---- the lines

-- "0C id level standing and its field bytes"
pub record LinkLine : Type 0 where
  pub id : ℕ
  pub level : ℕ
  pub standing : ℕ
  pub fields : List ℕ

abbrev pub link_bytes : LinkLine → List ℕ
link_bytes l = 0x0C ∷ l.id ∷ l.level ∷ l.standing ∷ l.fields

-- "formulas as 08 frames"
pub record FormulaLine : Type 0 where
  pub id : ℕ
  pub formula : Rule

abbrev pub rule_bytes : FormulaLine → List ℕ
rule_bytes r = 0x08 ∷ r.id ∷ formula_bytes r.formula

-- "0D f and four value bytes"
pub record ValueLine : Type 0 where
  pub field : ℕ
  pub value : ℤ

abbrev pub value_bytes : ValueLine → List ℕ
value_bytes v = 0x0D ∷ v.field ∷ four_bytes (bits_of v.value)

pub record Image : Type 0 where
  pub size : ℕ
  pub order : List ℕ
  pub links : List LinkLine
  pub formulas : List FormulaLine
  pub values : List ValueLine

-- "0A 01 n; 0B and the n fields ..; for each link .. 0C ..; formulas ..; 0D .. Every line ends in LF"
abbrev pub text_of : Image → List ℕ
text_of x =
    written
    ((0x0A ∷ 0x01 ∷ x.size ∷ []) ∷ (0x0B ∷ x.order)
    ∷ (map link_bytes x.links ++ (map rule_bytes x.formulas ++ map value_bytes x.values)))

-- ---- what is asked of them

-- each number is greater than those before it
unfoldable pub Rising : List ℕ → Type 0
Rising [] = Unit {0}
Rising (a ∷ bs) = All (λ b. a < b) bs × Rising bs

-- "the held field or FF": the fields that are held
abbrev pub held_fields : List LinkLine → List ℕ
held_fields links = passing (λ b. not (eqb b 0xFF)) (map (λ l. l.standing) links)

-- a formula's link is there, and kind 08 would not refuse the formula
abbrev pub Relates : ℕ → List LinkLine → FormulaLine → Type 0
Relates n links r =
    (l : LinkLine) × In l links × (l.id ≡ r.id) × Passes (check_formula n r.id true (covered_in l.fields) r.formula)

-- the cases of BadImage are the others: "not lines of this form and order, stays not each once, a field held twice, a standing not among the outputs,
-- numbers that the opening, Add or kind 08 would refuse"
pub record WellFormed (x : Image) : Type 0 where
  -- the opening would not refuse the number of fields
  pub opens : Passes (check_open 0 x.size)
  -- "the n fields": each stay once
  pub stays_within : All (λ f. f < x.size) x.order
  pub stays_once : Distinct x.order
  pub stays_all : length x.order ≡ x.size
  -- "by rising number"
  pub links_rise : Rising (map (λ l. l.id) x.links)
  -- Add would not refuse the numbers of a link, at an open panel without links; and what is written are bytes
  pub links_add : All (λ l. Passes (add_checks (opened x.size) l.id l.level l.fields)) x.links
  pub links_bytes : All (λ l. All (λ b. b < 256) l.fields) x.links
  -- no field is held twice, and a standing is among the outputs
  pub held_once : Distinct (held_fields x.links)
  pub held_output : All (λ l. (l.standing ≡ 0xFF) ⊎ ((l.standing < 64) × (member (outputs_in l.fields) l.standing ≡ true))) x.links
  -- "by rising link number"
  pub formulas_rise : Rising (map (λ r. r.id) x.formulas)
  pub formulas_fit : All (Relates x.size x.links) x.formulas
  -- "for each field whose value is not zero, rising"
  pub values_rise : Rising (map (λ v. v.field) x.values)
  pub values_fit : All (λ v. (v.field < x.size) × (v.value ≢ pos 0) × (outside v.value ≡ false)) x.values

-- a text is no BadImage exactly when it is the text of a well-formed image
abbrev pub ImagesExactly : Type 0
ImagesExactly = (text : List ℕ) → (is_bad text ≡ false) ↔ ((x : Image) × WellFormed x × (text_of x ≡ text))
