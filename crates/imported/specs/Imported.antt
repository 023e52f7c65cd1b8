-- What the panel makes of the lines of an import: statements. Quotations are of document 02, request 3.
use Rattle.std.specs.Prelude.{ℕ, zero, suc, ◌+◌, ◌*◌, ◌/◌, ◌%◌, ◌≡◌, true, false, ◌&&◌, cond, List, [], ◌∷◌, ◌++◌, eqb, ltb, pos, replicate, Some, None}
use Rattle.std.proofs.Math.Option.{none}
use Rattle.fieldset.specs.Lists.{All}
use Rattle.fieldset.specs.Tables.{tabulate}
use Rattle.fieldset.specs.Fields.{with, only}
use Rattle.panel.specs.declared.Standing.TheVariants.{Holding}
use Rattle.panel.specs.declared.Link.{Link}
use Rattle.panel.specs.declared.Panel.{Panel}
use Rattle.panel.specs.Items.{no_link}
use Rattle.panel.specs.Answers.{is_refusal}
use Rattle.formulas.specs.declared.Formula.TheVariants.{Ratio}
use Rattle.formulas.specs.Formulas.{Rule}
use Rattle.sheet.specs.declared.Sheet.{Sheet}
use Rattle.sheet.specs.Sheets.{unopened, sheet_of}
use Rattle.hexadecimal.specs.Hex.{line_of}
use Rattle.lines.specs.Lines.{lines_of}
use Rattle.tally.specs.declared.Tally.{Tally}
use Rattle.tally.specs.Tallies.{tally_bytes}
use Rattle.frames.specs.Texts.{replies, written}
use Rattle.frames.specs.Frames.{line_answer, sheet_after, panel_output}
use Rattle.edf.specs.Header.{flows_of, refusal_for}
use Rattle.importing.specs.Imports.{per_minute, per_second, import_output}

-- ---- the sheet after an import

-- "a required link i with both as outputs"; it holds the field per second
abbrev pub both_of : ℕ → ℕ
both_of i = with (only (per_minute i)) (per_second i)

abbrev pub flow_link : ℕ → Link
flow_link i = record { covered = both_of i; outputs = both_of i; level = 0; used = true; standing = Holding (per_second i) }

-- the setter of a field where the first i links are there: link j of field 2j + 1, and of any other field its stay
abbrev pub flow_setter : ℕ → ℕ → ℕ
flow_setter i f = cond (eqb (f % 2) 1 && ltb (f / 2) i) (f / 2) 128

-- a panel for k flows with the first i links, its stays as at opening
unfoldable pub flow_panel : ℕ → ℕ → Panel
flow_panel k i =
    record {
      size = 2 * k;
      links = tabulate (λ j. cond (ltb j i) (flow_link j) no_link) 128;
      place = tabulate (λ f. f) 64;
      setter = tabulate (flow_setter i) 64;
    }

-- the first i links have "the ratio 1 to 60"
unfoldable pub flow_formulas : ℕ → List Rule
flow_formulas i = tabulate (λ j. cond (ltb j i) (Some (Ratio 1 60)) None) 128

-- a sheet for k flows with the first i links and the first j ratios; its values are zero
abbrev pub flow_sheet : ℕ → ℕ → ℕ → Sheet
flow_sheet k i j = sheet_of (flow_panel k i) (flow_formulas j) (replicate 64 (pos 0))

-- ---- the replies to the lines of an import

-- for each i below k that of the add, which gives field 2i + 1 another setter, and that of the ratio
unfoldable pub flow_replies : ℕ → List (List ℕ)
flow_replies zero = []
flow_replies (suc i) = flow_replies i ++ ((0x00 ∷ 1 ∷ []) ∷ (0x00 ∷ 0 ∷ []) ∷ [])

abbrev pub replies_for : ℕ → List (List ℕ)
replies_for k = (0x00 ∷ 0 ∷ []) ∷ flow_replies k

-- the tally of n lines, all accepted
abbrev pub all_accepted : ℕ → Tally
all_accepted n = record { lines = n; accepted = n; refused = 0; last = 0 }

-- ---- "the panel is shown to accept every one"

-- of a file with k flows, whose lines meet an unopened panel
pub record Accepts (file : List ℕ) (k : ℕ) : Type 0 where
  pub replied : replies line_answer unopened (lines_of (import_output file)) ≡ replies_for k
  pub accepted : All (λ reply. is_refusal reply ≡ false) (replies line_answer unopened (lines_of (import_output file)))
  -- what the run program writes for them
  pub output : panel_output (import_output file) ≡ written (replies_for k) ++ line_of (tally_bytes (all_accepted (1 + 2 * k)))
  -- every flow has its link and its ratio, and nothing else is there
  pub sheet : sheet_after unopened (lines_of (import_output file)) ≡ flow_sheet k k k

abbrev pub EveryLineAccepted : Type 0
EveryLineAccepted = (file : List ℕ) → refusal_for file ≡ none → Accepts file (flows_of file)
