-- `entering::enter` meets its contract, by one law for each way: the touch's refusal (`enter_refused`), a link that still sets the field
-- (`enter_driven`), a result outside the limits (`enter_out`), the values stored (`enter_done`).
use Prim.Native.Nat.{ℕ, ◌<◌}
use mathlib.Core.Path.{◌≡◌, sym, ◌∙◌}
use mathlib.Core.List.{List}
use native.Mathlib.Omega.{arith}
use lib.IntN.{ℤ}
use mir.Facts.{to_z-of_z}
use borrow.Author.Tests.{lt-ltb, le-ltb}
use Rattle.std.specs.Prelude.{Ok}
use Rattle.panel.specs.declared.Step.{Step}
use Rattle.panel.specs.Commands.{touching}
use Rattle.panel.specs.Outcomes.{Decides}
use Rattle.panel.proofs.Answers.{is_refused, is_accepted}
use Rattle.sheet.specs.declared.Sheet.{Sheet}
use Rattle.sheet.specs.Sheets.{sheet_of}
use Rattle.sheet.specs.Legal.{LegalSheet}
use Rattle.entering.proofs.Entering.{kept, enter_refused, enter_driven, enter_ready, enter_out, enter_done}
use Rattle.entering.proofs.enter.Goals as goal
use Rattle.entering.proofs.enter.Goals.{Else-is_err, Start}

-- the field is among the panel's
low : (s : Sheet) (h : LegalSheet s) (f : ℕ) (v : ℤ) (step : Step) (touch : (path : List ℕ) × Decides s.panel 0 (touching f) path step)
    → {m : ℕ} → step.reply ≡ Ok m → f < 64
low s h f v step touch ok = omega (arith, (kept s h f v step touch.0 touch.1 _ ok).low, h.panel.few)

-- the sheet before
abbrev before : Start → Sheet
before c = sheet_of c.args.p.now c.args.formulas.now c.args.values.now

-- the touch is accepted
touched : (c : Else-is_err) → (m : ℕ) × (c.args.step.reply ≡ Ok m)
touched c = is_accepted _ (sym c.is_err.ensures.value ∙ c.if-is_err.false)

pub returns-then-is_err : goal.returns-then-is_err
returns-then-is_err c =
    let t = c.requires.by_index.0 in
    enter_refused (before (goal.at.returns-then-is_err c).Start) c.requires.legal_sheet.0 _ _ _ t.0 t.1 _
    (is_refused _ (sym c.is_err.ensures.value ∙ c.if-is_err.true)).1

pub bounds-setter-v : goal.bounds-setter-v
bounds-setter-v c =
    rw c.from-v.ensures
    (low (before (goal.at.bounds-setter-v c).Start) c.requires.legal_sheet.0 c.args.f c.args.value c.args.step c.requires.by_index.0
    (touched (goal.at.bounds-setter-v c).Else-is_err).1)

pub returns-then-setter-v-lt-STAY : goal.returns-then-setter-v-lt-STAY
returns-then-setter-v-lt-STAY c =
    let r = c.requires in
    let t = r.by_index.0 in
    let at = goal.at.returns-then-setter-v-lt-STAY c in
    rw c.unchanged.ensures
    (enter_driven (before at.Start) r.legal_sheet.0 _ _ _ t.0 t.1 _ (touched at.Else-is_err).1 r.by_index.1 _ r.legal_sheet.1
    (lt-ltb _ 128 (rw c.from-v.ensures at c.if-setter-v-lt-STAY.true)))

pub store-requires : goal.store-requires
store-requires c =
    let r = c.requires in
    let t = r.by_index.0 in
    let at = goal.at.store-requires c in
    let ok = (touched at.Else-is_err).1 in (
      enter_ready (before at.Start) r.legal_sheet.0 _ c.args.value c.args.step t.0 t.1 _ ok r.by_index.1 _ r.legal_sheet.1,
      rw c.from-v.ensures (low (before at.Start) r.legal_sheet.0 c.args.f c.args.value c.args.step t ok),
    )

pub returns-then-not-store : goal.returns-then-not-store
returns-then-not-store c =
    let r = c.requires in
    let t = r.by_index.0 in
    let at = goal.at.returns-then-not-store c in
    let undriven = le-ltb _ 128 (rw c.from-v.ensures at c.if-setter-v-lt-STAY.false) in
    let stored = rw (c.from-v.ensures, to_z-of_z c.ranges.value) at c.store.ensures in
    rw c.unchanged-then-not-store.ensures
    (enter_out (before at.Start) r.legal_sheet.0 _ _ _ t.0 t.1 _ (touched at.Else-is_err).1 r.by_index.1 _ r.legal_sheet.1 undriven stored
    c.if-not-store.true)

pub returns : goal.returns
returns c =
    let r = c.requires in
    let t = r.by_index.0 in
    let at = goal.at.returns c in
    let undriven = le-ltb _ 128 (rw c.from-v.ensures at c.if-setter-v-lt-STAY.false) in
    let stored = rw (c.from-v.ensures, to_z-of_z c.ranges.value) at c.store.ensures in
    rw c.valued.ensures
    (enter_done (before at.Start) r.legal_sheet.0 _ _ _ t.0 t.1 _ (touched at.Else-is_err).1 r.by_index.1 _ r.legal_sheet.1 undriven stored
    c.if-not-store.false _ c.revalued.ensures)

pub revalued-requires : goal.revalued-requires
revalued-requires c = c.requires.legal_sheet.0.panel.few
