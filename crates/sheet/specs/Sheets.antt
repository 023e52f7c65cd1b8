-- Sheets: a panel with the formulas of its links and the values of its fields (document 02, request 2).
use Rattle.std.specs.Prelude.{ℕ, ◌≡◌, List, ℤ, pos, length, get_or, set, replicate, None}
use Rattle.panel.specs.declared.Panel.{Panel}
use Rattle.panel.specs.Panels.{opened}
use Rattle.panel.specs.Solution.{setter_reads, plan_of}
use Rattle.formulas.specs.Formulas.{Rule, formula_of}
use Rattle.evaluation.specs.Runs.{Run, run}
use Rattle.sheet.specs.declared.Sheet.{Sheet}

-- the sheet of these parts
abbrev pub sheet_of : Panel → List Rule → List ℤ → Sheet
sheet_of p formulas values = record { panel = p; formulas = formulas; values = values }

-- a panel with no formula; values are "zero at opening"
abbrev pub blank : Panel → Sheet
blank p = record { panel = p; formulas = replicate 128 None; values = replicate 64 (pos 0) }

-- the sheet of an unopened panel
abbrev pub unopened : Sheet
unopened = blank (opened 0)

-- the formula of the link of a number
abbrev pub formula_at : List Rule → ℕ → Rule
formula_at formulas k = get_or formulas k None

-- the formulas with another one at a number
abbrev pub with_formula : List Rule → ℕ → Rule → List Rule
with_formula formulas k formula = set formulas k formula

-- the panel's plan, run once over these values
abbrev pub evaluated : Panel → List Rule → List ℤ → Run
evaluated p formulas values = run (formula_of formulas p.setter) (setter_reads p) (plan_of p) values

-- the tables of links and of formulas have all their entries
pub record Full (s : Sheet) : Type 0 where
  pub links : length s.panel.links ≡ 128
  pub formulas : length s.formulas ≡ 128
