-- `loading::load` meets its contract: one law for each way through the checks.
use mathlib.Core.Path.{◌≡◌, sym, ◌∙◌}
use mathlib.Core.Bool.{false}
use Rattle.frames.specs.Texts.{is_too_long}
use Rattle.images.specs.Reading.{is_unknown, is_bad}
use Rattle.loading.proofs.Loading.{too_long, already_open_lem, unknown, bad, taken_formed, unfit, taken}
use Rattle.loading.proofs.load.Goals as goal
use Rattle.loading.proofs.load.Goals.{Else-is_bad, Else-is_too_long, Else-is_unknown}

-- ---- the places, and what is known there

short : (c : Else-is_too_long) → is_too_long c.args.text.now ≡ false
short c = sym c.is_too_long.ensures ∙ c.if-is_too_long.false

known : (c : Else-is_unknown) → is_unknown c.args.text.now ≡ false
known c = sym c.is_unknown.ensures ∙ c.if-is_unknown.false

good : (c : Else-is_bad) → is_bad c.args.text.now ≡ false
good c = sym c.is_bad.ensures ∙ c.if-is_bad.false

-- ---- the goals

pub returns-then-is_too_long : goal.returns-then-is_too_long
returns-then-is_too_long c =
    too_long c.args.s.now c.args.text.now (sym c.is_too_long.ensures ∙ c.if-is_too_long.true)

pub returns-then-s-gt0 : goal.returns-then-s-gt0
returns-then-s-gt0 c =
    already_open_lem c.args.s.now c.args.text.now (short (goal.at.returns-then-s-gt0 c).Else-is_too_long) c.if-s-gt0.true

pub returns-then-is_unknown : goal.returns-then-is_unknown
returns-then-is_unknown c =
    unknown c.args.s.now c.args.text.now (short (goal.at.returns-then-is_unknown c).Else-is_too_long) c.if-s-gt0.false (sym c.is_unknown.ensures ∙ c.if-is_unknown.true)

pub is_bad-requires : goal.is_bad-requires
is_bad-requires c = c.read_lines-c.ensures

pub returns-then-is_bad : goal.returns-then-is_bad
returns-then-is_bad c =
    bad c.args.s.now c.args.text.now (short (goal.at.returns-then-is_bad c).Else-is_too_long) c.if-s-gt0.false (known (goal.at.returns-then-is_bad c).Else-is_unknown) (sym c.is_bad.ensures ∙ c.if-is_bad.true)

pub is_unfit-requires : goal.is_unfit-requires
is_unfit-requires c =
    taken_formed c.args.s.now c.args.text.now (short (goal.at.is_unfit-requires c).Else-is_too_long) c.if-s-gt0.false (known (goal.at.is_unfit-requires c).Else-is_unknown) (good (goal.at.is_unfit-requires c).Else-is_bad) _ c.read_lines-c.ensures.0

pub returns-then-is_unfit : goal.returns-then-is_unfit
returns-then-is_unfit c =
    unfit c.args.s.now c.args.text.now (short (goal.at.returns-then-is_unfit c).Else-is_too_long) c.if-s-gt0.false (known (goal.at.returns-then-is_unfit c).Else-is_unknown) (good (goal.at.returns-then-is_unfit c).Else-is_bad) _ c.read_lines-c.ensures.0 (sym c.is_unfit.ensures ∙ c.if-is_unfit.true)

pub returns : goal.returns
returns c =
    taken c.args.s.now c.args.text.now (short (goal.at.returns c).Else-is_too_long) c.if-s-gt0.false (known (goal.at.returns c).Else-is_unknown) (good (goal.at.returns c).Else-is_bad) _ c.read_lines-c.ensures.0 (sym c.is_unfit.ensures ∙ c.if-is_unfit.false)
