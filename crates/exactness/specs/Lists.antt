-- What holds after every list of commands, kinds 06 to 08 among them (document 02, requests 2 and 5), from an unopened panel and from a saved text that
-- was taken in (request 7): statements.
use Rattle.std.specs.Prelude.{ℕ, ◌≡◌, false, List, ◌∷◌, ◌≢◌, ℤ, pos, None}
use Rattle.std.proofs.Math.Option.{some}
use Rattle.panel.specs.declared.Refusal.TheVariants.{Conflict}
use Rattle.fieldset.specs.Lists.{In}
use Rattle.panel.specs.Items.{link, stay, link_at}
use Rattle.panel.specs.Answers.{refusal_bytes, is_refusal}
use Rattle.panel.specs.Commands as panel
use Rattle.panel.specs.Commands.{opening}
use Rattle.values.specs.Limits.{value_at, outside}
use Rattle.formulas.specs.Formulas.{Rule, Right}
use Rattle.sheet.specs.declared.Sheet.{Sheet}
use Rattle.sheet.specs.Sheets.{formula_at}
use Rattle.sheet.specs.Commands.{solving, entering, relating, performed}
use Rattle.sheet.specs.Legal.{Fits}
use Rattle.optimality.specs.Condition3.{Entry, Store, held, Optimal}
use Rattle.optimality.specs.States.{Settled, NothingBlocked, LooksAlike, NothingBetter}
use Rattle.optimality.specs.Refusals.{ConflictExactly, ChangeConflictExactly, LoopExactly}
use Rattle.exactness.specs.Values.{EnteredExactly, OutOfRangeExactly, ValuesOnly}
use Rattle.exactness.specs.Systems.{sheets}
use Rattle.exactness.specs.Beginnings.{AfterEveryRun, AfterEveryGiven}

-- condition 3 of the tender, over lists with kinds 06 to 08; "the rule that nobody can hold more now also speaks of runs from such a text" (request 7)
abbrev pub Condition3 : Type 0
Condition3 = AfterEveryRun (λ r. Optimal r.store (sheets.plan r.state))

-- ---- document 01's sentences about every state, over these lists

-- "each field has exactly one setter ..; every required link in force holds", nothing is blocked, and nothing is better
abbrev pub EveryState : Type 0
EveryState =
    AfterEveryRun (λ r.
    Settled r.store (sheets.plan r.state) × NothingBlocked r.state.panel × NothingBetter r.store (sheets.plan r.state))

-- a removal answers the same whether one looks at what is blocked after every drop or only after that of a link that sets a field
abbrev pub EitherReading : Type 0
EitherReading = AfterEveryRun (λ r. LooksAlike r.state.panel)

-- Conflict and Loop are given exactly when document 01 says so, of a change Conflict where its removal is accepted
abbrev pub ConflictAndLoop : Type 0
ConflictAndLoop =
    AfterEveryRun
    (λ r. ConflictExactly r.store r.state.panel × ChangeConflictExactly r.store r.state.panel × LoopExactly r.state.panel)

-- a value that is entered never meets Conflict, since "Touch and Remove never give Conflict"
abbrev pub EnteringNeverConflict : Type 0
EnteringNeverConflict = (s : Sheet) (f : ℕ) (v : ℤ) → (performed s (entering f v)).reply ≡ 0xFF ∷ refusal_bytes Conflict → ⊥

-- ---- formulas and values

-- the formulas of the sheet are those given
abbrev pub FormulasGiven : Type 0
FormulasGiven = AfterEveryGiven (λ r given. (k : ℕ) → formula_at r.state.formulas k ≡ given k)

-- "zero at opening"
abbrev pub ZeroAtOpening : Type 0
ZeroAtOpening =
    AfterEveryRun (λ r. (n f : ℕ) → let a = performed r.state (solving (opening n)) in
    is_refusal a.reply ≡ false → value_at a.sheet.values f ≡ pos 0)

-- only kind 07 changes a value
abbrev pub OthersKeepValues : Type 0
OthersKeepValues =
    (s : Sheet) → ((c : panel.Command) → (performed s (solving c)).sheet.values ≡ s.values)
    × ((id : ℕ) (formula : Rule) → (performed s (relating id formula)).sheet.values ≡ s.values)

-- a formula fits its link
abbrev pub FormulasFit : Type 0
FormulasFit = AfterEveryRun (λ r. (k : ℕ) → Fits (formula_at r.state.formulas k) (link_at r.state.panel.links k))

-- values are within the limits
abbrev pub ValuesWithin : Type 0
ValuesWithin = AfterEveryRun (λ r. (f : ℕ) → outside (value_at r.state.values f) ≡ false)

-- a value that is entered then leaves each held formula right
abbrev pub ValuesRight : Type 0
ValuesRight = AfterEveryRun (λ r. EnteredExactly r.state)

-- The same of what Plan then answers, of the covered fields in the store b, and of the formulas given: v was entered in f, and the values
-- before and after are these
pub record HeldExactly (b : Store) (given : ℕ → Rule) (plan : List ℕ) (f : ℕ) (v : ℤ) (before after : ℕ → ℤ) : Type 0 where
  pub stored : after f ≡ v
  -- "each held formula is right, only for the field it sets"
  pub right : (i g : ℕ) (e : Entry) → In (record { item = link i; field = g }) (held plan) → b.links i ≡ some e → Right (given i) e.covered g after
  -- "a link without formula, and a stay, keeps the value"
  pub link_keeps : (i g : ℕ) → In (record { item = link i; field = g }) (held plan) → given i ≡ None → after g ≡ before g
  pub stay_keeps : (g : ℕ) → In (record { item = stay g; field = g }) (held plan) → g ≢ f → after g ≡ before g

abbrev pub HeldRight : Type 0
HeldRight =
    AfterEveryGiven (λ r given. (f : ℕ) (v : ℤ) → let a = performed r.state (entering f v) in
    is_refusal a.reply ≡ false
    → HeldExactly r.store given (sheets.plan a.sheet) f v (value_at r.state.values) (value_at a.sheet.values))

-- where the touch is accepted and no link sets f, a value is refused with OutOfRange exactly where no values are right; an accepted one has the only ones
abbrev pub OutOfRangeWhereNone : Type 0
OutOfRangeWhereNone = AfterEveryRun (λ r. OutOfRangeExactly r.state × ValuesOnly r.state)
