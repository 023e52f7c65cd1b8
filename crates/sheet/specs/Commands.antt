-- The panel's commands on a sheet, and the commands of document 02, request 2. Quotations are of that request if not of another.
use Rattle.std.specs.Prelude.{ℕ, Bool, false, not, cond, List, [], ◌∷◌, eqb, leb, ltb, ℤ, set, Some, None}
use Rattle.fieldset.specs.Tables.{at}
use Rattle.fieldset.specs.Fields.{union, size}
use Rattle.panel.specs.declared.Panel.{Panel}
use Rattle.panel.specs.declared.Refusal.{Refusal}
use Rattle.panel.specs.declared.Refusal.TheVariants.{NotOpen, BadLink, NoSuchField, NoSuchLink, OutOfRange, FieldDriven, BadFormula}
use Rattle.panel.specs.Items.{link_at}
use Rattle.panel.specs.Answers as answers
use Rattle.panel.specs.Answers.{refusal_bytes, is_refusal}
use Rattle.panel.specs.Moved as panels
use Rattle.panel.specs.Commands as panel
use Rattle.panel.specs.Commands.{opening, adding, removing, touching, planning, changing, covered_in, Check, check, check_reply}
use Rattle.values.specs.Changes.{revalued}
use Rattle.formulas.specs.declared.Formula.TheVariants.{Ratio, Sum}
use Rattle.formulas.specs.Formulas.{Rule, accepted}
use Rattle.evaluation.specs.Runs.{Run}
use Rattle.sheet.specs.declared.Sheet.{Sheet}
use Rattle.sheet.specs.Sheets.{with_formula, evaluated}

pub data Command : Type 0 where
  -- one of the panel's
  solving : panel.Command → Command
  -- "Frame 07 f and four bytes"
  entering : ℕ → ℤ → Command
  -- "Frame 08 id 01 pppp qqqq", "Frame 08 id 02 f"
  relating : ℕ → Rule → Command

-- the sheet after a command, and the bytes of the reply
pub record Answer : Type 0 where
  pub sheet : Sheet
  pub reply : List ℕ

abbrev pub refused : Sheet → Refusal → Answer
refused s r = record { sheet = s; reply = 0xFF ∷ refusal_bytes r }

-- ---- the panel's commands

-- the formulas after a command that is not refused: "removal drops it"; of a change, "its formula kept if the covered fields are the same, else dropped"
-- (request 5)
abbrev pub formulas_after : Sheet → panel.Command → List Rule
formulas_after s (opening n) = s.formulas
formulas_after s (adding id level bytes) = s.formulas
formulas_after s (removing id) = with_formula s.formulas id None
formulas_after s (touching f) = s.formulas
formulas_after s planning = s.formulas
formulas_after s (changing id level bytes) =
    cond (eqb (link_at s.panel.links id).covered (covered_in bytes)) s.formulas (with_formula s.formulas id None)

-- no value changes
abbrev pub solved : Sheet → panel.Command → answers.Answer → Answer
solved s c a =
    record {
      sheet =
          record { panel = a.panel; formulas = cond (is_refusal a.reply) s.formulas (formulas_after s c); values = s.values };
      reply = a.reply;
    }

-- ---- kind 07

-- "a link still sets f"
abbrev pub is_driven : Panel → ℕ → Bool
is_driven p f = ltb (at p.setter f) 128

-- "fields whose setter changed, and all fields downstream of these in the state after the command; for kind 07 also every field whose value changed"
-- (request 6)
unfoldable pub redrawn : Sheet → Sheet → ℕ
redrawn before after =
    union (panels.redrawn before.panel after.panel) (revalued after.panel.size before.values after.values)

-- the sheet s becomes t: 00 and the moved count
abbrev pub renewed : Sheet → Sheet → Answer
renewed s t = record { sheet = t; reply = 0x00 ∷ size (redrawn s t) ∷ [] }

-- a panel that was touched, with the values after a run; "OutOfRange (a result outside the limits)"
abbrev pub valued : Sheet → Panel → Run → Answer
valued s touched run =
    cond run.fits (renewed s (record { panel = touched; formulas = s.formulas; values = run.values })) (refused s OutOfRange)

-- what the touch of f gave, and then "stores the value and runs the whole plan once"; "FieldDriven (a link still sets f after the touch, checked
-- before 13)"; "every refusal undoes the touch"
unfoldable pub entered : Sheet → ℕ → ℤ → answers.Answer → Answer
entered s f v touched =
    cond (is_refusal touched.reply) (record { sheet = s; reply = touched.reply })
    (cond (is_driven touched.panel f) (refused s FieldDriven)
    (valued s touched.panel (evaluated touched.panel s.formulas (set s.values f v))))

-- ---- kind 08

-- the field of a sum is none of n fields
abbrev pub sum_past : ℕ → Rule → Bool
sum_past n None = false
sum_past n (Some (Ratio p q)) = false
sum_past n (Some (Sum f)) = leb n f

-- "the link, open and field checks precede", then "BadFormula (p or q 0, wrong number of covered fields, f not covered)"; of a panel of n fields and
-- the link of the number
abbrev pub check_formula : ℕ → ℕ → Bool → ℕ → Rule → List Check
check_formula n id used covered formula =
    check (not (ltb 0 n)) NotOpen
    ∷ check (ltb 127 id) BadLink
    ∷ check (sum_past n formula) NoSuchField
    ∷ check (not used) NoSuchLink
    ∷ check (not (accepted formula covered)) BadFormula
    ∷ []

abbrev pub formula_checks : Panel → ℕ → Rule → List Check
formula_checks p id formula = let l = link_at p.links id in check_formula p.size id l.used l.covered formula

-- "A new formula replaces the old"; 00 "and the moved count, 0 for kind 08"
abbrev pub related : Sheet → ℕ → Rule → List ℕ → Answer
related s id formula reply =
    record {
      sheet =
          record { panel = s.panel; formulas = cond (is_refusal reply) s.formulas (with_formula s.formulas id formula); values = s.values };
      reply = reply;
    }

-- ---- all commands

abbrev pub performed : Sheet → Command → Answer
performed s (solving c) = solved s c (panel.performed s.panel c)
performed s (entering f v) = entered s f v (panel.performed s.panel (touching f))
performed s (relating id formula) = related s id formula (check_reply (formula_checks s.panel id formula))
