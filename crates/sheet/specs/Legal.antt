-- What a legal sheet is. Every command keeps its sheet legal (`proofs/Legal.antt`).
use Rattle.std.specs.Prelude.{ℕ, ◌≤◌, ◌≡◌, true, false, ◌⊎◌, pos, length, None}
use Rattle.panel.specs.declared.Link.{Link}
use Rattle.panel.specs.Items.{link_at}
use Rattle.panel.specs.Legal.{Legal}
use Rattle.values.specs.Limits.{value_at, outside}
use Rattle.formulas.specs.Formulas.{Rule, accepted}
use Rattle.sheet.specs.declared.Sheet.{Sheet}
use Rattle.sheet.specs.Sheets.{formula_at}

-- a formula fits its link: there is none, or the link is in use and can be given it over its covered fields
abbrev pub Fits : Rule → Link → Type 0
Fits formula l = (formula ≡ None) ⊎ ((l.used ≡ true) × (accepted formula l.covered ≡ true))

pub record LegalSheet (s : Sheet) : Type 0 where
  pub panel : Legal s.panel
  pub fits : (k : ℕ) → Fits (formula_at s.formulas k) (link_at s.panel.links k)
  pub formulas_length : length s.formulas ≡ 128
  pub values_length : length s.values ≡ 64
  -- "from −2,147,483,648 to 2,147,483,647", and zero past the fields of the panel
  pub within : (f : ℕ) → outside (value_at s.values f) ≡ false
  pub past : (f : ℕ) → s.panel.size ≤ f → value_at s.values f ≡ pos 0
