-- What changing a link promises, and the scan that it makes.
use Rattle.std.specs.Prelude.{ℕ, ◌≡◌, not, cond, List, eqb, take, Result, Ok, Err}
use Rattle.fieldset.specs.Tables.{at}
use Rattle.fieldset.specs.Fields.{set_of}
use Rattle.panel.specs.declared.Panel.{Panel}
use Rattle.panel.specs.declared.Refusal.{Refusal}
use Rattle.panel.specs.Items.{item_of}
use Rattle.panel.specs.Answers.{Reply, is_refusal, reply_bytes}
use Rattle.panel.specs.Solution.{reversed}
use Rattle.panel.specs.Commands.{check_reply, change_checks, changing, performed}
use Rattle.panel.specs.Moved.{turned}
use Rattle.panel.specs.Outcomes.{Uncounted, counted, redrawn_by}
use Rattle.tables.specs.declared.Tables.{Tables}
use Rattle.tables.specs.Tables.{TablesOf}
use Rattle.reversal.specs.declared.Verdict.{Verdict}
use Rattle.reversal.specs.Reversals.{setter_by, count_by}
use Rattle.removing.specs.Scans.{scan_count}

-- the fields that have another setter after than before
abbrev pub changed_fields : List ℕ → List ℕ → ℕ
changed_fields before after = set_of (λ f. not (eqb (at before f) (at after f))) 64

-- the panel with the path of a verdict reversed, for the item of the number c
abbrev pub reversed_by : Panel → Verdict → ℕ → List ℕ → Panel
reversed_by p verdict c path = reversed p (item_of (setter_by verdict c) (at path 0)) (take (count_by verdict) path)

-- how many strengths the last scan worked out, after a change: that of its removal, where the checks pass
unfoldable pub change_count : ℕ → Panel → ℕ → ℕ → List ℕ → ℕ
change_count before p id level bytes = cond (is_refusal (check_reply (change_checks p id level bytes))) before (scan_count before p id)

-- the fields that got another setter, and the reply without its count, by what a change answers
abbrev pub moved_by : Result ℕ Refusal → ℕ
moved_by (Ok set) = set
moved_by (Err r) = 0

abbrev pub reply_by : Result ℕ Refusal → Reply
reply_by (Ok set) = Ok 0
reply_by (Err r) = Err r

-- a link was changed: the panel q, and the reply with the count of what is redrawn, are the command's, the tables are that panel's own, and its scan was
-- counted
pub record Changes (p : Panel) (id level : ℕ) (bytes : List ℕ) (tables : Tables) (before worked : ℕ) (q : Panel) (r : Result ℕ Refusal) : Type 0 where
  pub panel : q ≡ (performed p (changing id level bytes)).panel
  pub changed : moved_by r ≡ turned p q
  pub reply : reply_bytes (counted (reply_by r) (redrawn_by (moved_by r) 0 q)) ≡ (performed p (changing id level bytes)).reply
  pub uncounted : Uncounted (reply_by r)
  pub tabled : TablesOf q tables
  pub scan : worked ≡ change_count before p id level bytes
