-- The step of one line.
use Rattle.std.specs.Prelude.{ℕ, ◌≤◌, ◌≡◌, Bool, true, false, cond, List, ◌∷◌, ◌⊎◌, eqb, ℤ, length, None, Result, Ok}
use Rattle.panel.specs.declared.Link.{Link}
use Rattle.panel.specs.declared.Panel.{Panel}
use Rattle.panel.specs.Answers.{Reply}
use Rattle.panel.specs.declared.Step.{Step}
use Rattle.panel.specs.Answers.{rows_length, reply_bytes, is_refusal}
use Rattle.panel.specs.Items.{link_at}
use Rattle.panel.specs.Commands.{touching, covered_in}
use Rattle.panel.specs.Outcomes.{unchanged, Takes, step_reply, Decides}
use Rattle.panel.specs.declared.Refusal.{Refusal}
use Rattle.tables.specs.declared.Tables.{Tables}
use Rattle.tables.specs.Tables.{TablesOf}
use Rattle.changing.specs.Changed.{Changes}
use Rattle.formulas.specs.Formulas.{Rule}
use Rattle.sheet.specs.declared.Sheet.{Sheet}
use Rattle.sheet.specs.Sheets.{sheet_of, formula_at, with_formula}
use Rattle.hexadecimal.specs.Hex.{frame_room}
use Rattle.frames.specs.declared.Command.{Command}
use Rattle.frames.specs.declared.Command.TheVariants.{Open, Add, Remove, Touch, Plan, Change, Enter, Relate, Refused}
use Rattle.frames.specs.declared.Line.{Line}
use Rattle.frames.specs.Frames.{formula_in, command_answer}
use Rattle.replies.specs.Replies.{rest_of, whole_reply}

-- a line that was read: its frame's bytes, and that the field bytes of an add or a change start behind the third
pub record Framed (line : Line) : Type 0 where
  pub short : line.len ≤ frame_room
  pub reaches : (id level : ℕ) → (line.command ≡ Add id level) ⊎ (line.command ≡ Change id level) → 3 ≤ line.len

-- ---- formulas

-- the formula that a command gives the link that it names, where it is not refused: `tail` stands beside the command, `covered` are the fields that the
-- link covers before
abbrev pub formula_given : Command → List ℕ → ℕ → Rule → Rule
formula_given (Open n) tail covered old = old
formula_given (Add id level) tail covered old = old
formula_given (Remove id) tail covered old = None
formula_given (Touch f) tail covered old = old
formula_given Plan tail covered old = old
formula_given (Change id level) tail covered old = cond (eqb covered (covered_in tail)) old None
formula_given (Enter f b) tail covered old = old
formula_given (Relate id form) tail covered old = formula_in (form ∷ tail)
formula_given (Refused r) tail covered old = old

-- the formula of that link afterwards
abbrev pub formula_after : Command → List ℕ → Reply → ℕ → Rule → Rule
formula_after c tail reply covered old = cond (is_refusal (reply_bytes reply)) old (formula_given c tail covered old)

-- commands that may give another
abbrev pub sets_formula : Command → Bool
sets_formula (Open n) = false
sets_formula (Add id level) = false
sets_formula (Remove id) = true
sets_formula (Touch f) = false
sets_formula Plan = false
sets_formula (Change id level) = true
sets_formula (Enter f b) = false
sets_formula (Relate id form) = true
sets_formula (Refused r) = false

-- ---- the step

-- the parts of the answer to a line's command, which names the link of number k, but for the panel: the formula of that link, the values `after`, and the
-- reply with the first rows of the buffer
pub record AnswerRest (s : Sheet) (k : ℕ) (command : Command) (tail rows : List ℕ) (after : List ℤ) (r : Reply) : Type 0 where
  pub formulas :
      with_formula s.formulas k (formula_after command tail r (link_at s.panel.links k).covered (formula_at s.formulas k))
      ≡ (command_answer s command tail).state.formulas
  pub values : after ≡ (command_answer s command tail).state.values
  pub reply : whole_reply command r rows ≡ (command_answer s command tail).reply
  pub rest : rest_of command r ≤ rows_length

-- the step of the command: taken, it gives the panel of the answer, and its reply is the answer's
pub record LineStep (s : Sheet) (k : ℕ) (command : Command) (tail path rows : List ℕ) (after : List ℤ) (step : Step) : Type 0 where
  pub takes : Takes s.panel k path step (command_answer s command tail).state.panel
  pub replied : AnswerRest s k command tail rows after (step_reply step (command_answer s command tail).state.panel)
  pub rows_full : length rows ≡ rows_length

-- whatever the formulas and values: no value changes
abbrev pub PanelStep : Panel → ℕ → Command → List ℕ → List ℕ → List ℕ → Step → Type 0
PanelStep p k command tail path rows step =
    (formulas : List Rule) (values : List ℤ) → LineStep (sheet_of p formulas values) k command tail path rows values step

-- the step of a touch
pub record TouchStep (p : Panel) (k f : ℕ) (path rows : List ℕ) (step : Step) : Type 0 where
  pub decides : Decides p k (touching f) path step
  pub rows_full : length rows ≡ rows_length

-- the step that leaves the panel as it is
pub record KeptStep (p : Panel) (named : Link) (path rows : List ℕ) (step : Step) : Type 0 where
  pub is : step ≡ unchanged p.size p.place named (Ok 0)
  pub path_full : length path ≡ 64
  pub rows_full : length rows ≡ rows_length

-- the step of a line but for a removal and a change, for which it leaves the panel as it is; for a value that is entered, the step of its touch
abbrev pub DecidedLine : Panel → ℕ → Link → List ℕ → List ℕ → List ℕ → Step → Command → Type 0
DecidedLine p k named tail path rows s (Remove id) = KeptStep p named path rows s
DecidedLine p k named tail path rows s (Change id level) = KeptStep p named path rows s
DecidedLine p k named tail path rows s (Enter f b) = TouchStep p k f path rows s
DecidedLine p k named tail path rows s (Open n) = PanelStep p k (Open n) tail path rows s
DecidedLine p k named tail path rows s (Add id level) = PanelStep p k (Add id level) tail path rows s
DecidedLine p k named tail path rows s (Touch f) = PanelStep p k (Touch f) tail path rows s
DecidedLine p k named tail path rows s Plan = PanelStep p k Plan tail path rows s
DecidedLine p k named tail path rows s (Relate id form) = PanelStep p k (Relate id form) tail path rows s
DecidedLine p k named tail path rows s (Refused r) = PanelStep p k (Refused r) tail path rows s

-- nothing was asked: the panel and its tables are as they were, and no scan was made; nobody reads the answer
pub record Unasked (p : Panel) (tables : Tables) (before worked : ℕ) (q : Panel) (r : Result ℕ Refusal) : Type 0 where
  pub is : r ≡ Ok 0
  pub same : q ≡ p
  pub tabled : TablesOf p tables
  pub scan : worked ≡ before

-- the change that a line asks was carried out, of another line nothing; `tail` stands beside the command
abbrev pub ChangedLine : Panel → List ℕ → Tables → ℕ → ℕ → Panel → Result ℕ Refusal → Command → Type 0
ChangedLine p tail tables before worked q r (Change id level) = Changes p id level tail tables before worked q r
ChangedLine p tail tables before worked q r (Open n) = Unasked p tables before worked q r
ChangedLine p tail tables before worked q r (Add id level) = Unasked p tables before worked q r
ChangedLine p tail tables before worked q r (Remove id) = Unasked p tables before worked q r
ChangedLine p tail tables before worked q r (Touch f) = Unasked p tables before worked q r
ChangedLine p tail tables before worked q r Plan = Unasked p tables before worked q r
ChangedLine p tail tables before worked q r (Enter f b) = Unasked p tables before worked q r
ChangedLine p tail tables before worked q r (Relate id form) = Unasked p tables before worked q r
ChangedLine p tail tables before worked q r (Refused x) = Unasked p tables before worked q r
