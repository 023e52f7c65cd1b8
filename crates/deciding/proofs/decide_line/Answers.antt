-- `deciding::decide_line` meets its contract, an arm by one law: what the arm's operation promises is the step of the command (`solved_step`,
-- `plan_step_lem`, `relate_step`, `refused_step`); the frame of an add reaches its field bytes (`Framed`).
use mathlib.Core.Path.{◌≡◌, refl, ap, ◌∙◌}
use mathlib.Core.List.{◌∷◌}
use mathlib.Core.Logic.{inl}
use native.Mathlib.Omega.{arith}
use lib.ListN.{length}
use borrow.Author.Rules.{rules}
use Rattle.panel.specs.Items.{link_at}
use Rattle.panel.specs.Answers.{rows_length}
use Rattle.panel.specs.Commands.{opening, check_reply}
use Rattle.frames.specs.declared.Command.{Command}
use Rattle.frames.specs.declared.Command.TheVariants.{Open}
use Rattle.frames.specs.Frames.{formula_in, number_of}
use Rattle.frames.specs.Reading.{tail_of}
use Rattle.frames.proofs.Answers.{formulas_apart}
use Rattle.formulas.specs.Formulas.{Rule}
use Rattle.sheet.specs.Sheets.{sheet_of}
use Rattle.sheet.specs.Commands.{formula_checks}
use Rattle.deciding.proofs.Arms.{formula_kept, solved_step, refused_step, relate_step, plan_step_lem}
use Rattle.deciding.proofs.decide_line.Goals as goal
use Rattle.deciding.proofs.decide_line.Goals.{Start}

-- the link of its number
named-at : (s : Start) {c : Command} → s.args.line.now.command ≡ c → s.args.named ≡ link_at s.args.p.now.links (number_of c)
named-at s e = s.requires.legal.2 ∙ ap (λ (x : Command). link_at s.args.p.now.links (number_of x)) e

-- the buffers are full
path-full : (s : Start) → length s.args.path.now ≡ 64
path-full s = search rules

rows-full : (s : Start) → length s.args.rows.now ≡ rows_length
rows-full s = search rules

pub tail-requires : goal.tail-requires
tail-requires c = let f = c.requires.framed in (omega (arith, f.reaches _ _ (inl c.in-Add.is)), f.short)

pub returns-in-Open : goal.returns-in-Open
returns-in-Open c =
    let s = (goal.at.returns-in-Open c).Start in
    let e = c.in-Open.is in
    rw e (λ formulas values.
    solved_step (sheet_of _ formulas values) 0 _ _ _ (rows-full s) (Open _) (opening _) _ refl (λ r. refl) (λ a. formula_kept formulas 0)
    (c.open.ensures 0 _ (path-full s) (named-at s e)))

pub returns-in-Plan : goal.returns-in-Plan
returns-in-Plan c =
    let s = (goal.at.returns-in-Plan c).Start in
    let e = c.in-Plan.is in
    rw (e, c.keep-in-Plan.ensures) (λ formulas values.
    plan_step_lem (sheet_of _ formulas values) 0 _ _ _ (path-full s) _ (named-at s e) _ _ (rows-full s) c.plan-reply.ensures)

pub returns-in-Relate : goal.returns-in-Relate
returns-in-Relate c =
    let s = (goal.at.returns-in-Relate c).Start in
    let e = c.in-Relate.is in
    rw (e, c.keep-in-Relate.ensures) (λ formulas values.
    relate_step (sheet_of _ formulas values) _ _ _ _ (path-full s) _ (named-at s e) (rows-full s) _ _ _
    (c.relate-reply.ensures ∙ ap (λ (x : Rule). check_reply (formula_checks c.args.p.now c.in-Relate.id x))
    (formulas_apart c.formula_of.result (formula_in (c.in-Relate.form ∷ tail_of c.args.line.now)) c.formula_of.ensures)) refl)

pub returns-in-Refused : goal.returns-in-Refused
returns-in-Refused c =
    let s = (goal.at.returns-in-Refused c).Start in
    let e = c.in-Refused.is in
    rw (e, c.keep-in-Refused.ensures) (λ formulas values. refused_step (sheet_of _ formulas values) 0 _ _ _ (path-full s) _ (named-at s e) (rows-full s) _)
