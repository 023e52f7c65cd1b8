-- `adding::add` meets its contract. A refusal of the checks is the command's (`add_refused`). An add that passes enters a link (`passed`), and the
-- verdict on it refuses it (`entry_refused`) or gives the command's step (`entry_done`).
use mathlib.Core.Path.{◌≡◌, sym, ◌∙◌}
use Prim.Native.Nat.{◌%◌}
use lib.ListN.{length}
use borrow.Author.Rules.{rules}
use Rattle.panel.specs.Commands.{adding}
use Rattle.panel.proofs.Outcomes.{decides_refused}
use Rattle.panel.proofs.Answers.{is_refused, is_accepted}
use Rattle.adding.proofs.Adding.{Entering, add_refused, add_passes, new_unresolved, entry_refused, entry_done}
use Rattle.adding.proofs.add.Goals as goal
use Rattle.adding.proofs.add.Goals.{Else-is_err}

-- the checks passed
passed : (c : Else-is_err) → let s = c.args in let fields = c.read_fields-fields.result in (s.id % 128 ≡ s.id) × Entering s.p.now (s.id % 128) s.level fields.covered fields.outputs (adding s.id s.level s.bytes.now)
passed c =
    let (m, is) = is_accepted _ (sym c.is_err.ensures.value ∙ c.if-is_err.false) in
    add_passes c.args.p.now c.args.id c.args.level c.args.bytes.now _ _ _ c.read_fields-fields.ensures c.args.old c.requires.2
    c.check_link-reply.result _ c.then_some-taken.ensures c.check_link-reply.ensures c.requires.0 m is

pub returns-then-is_err : goal.returns-then-is_err
returns-then-is_err c =
    let full : length c.args.path.now ≡ 64 = search rules in
    let (x, is) = is_refused _ (sym c.is_err.ensures.value ∙ c.if-is_err.true) in
    decides_refused _ _ _ _ (adding c.args.id c.args.level c.args.bytes.now) _ full x _ c.requires.2 is
    (add_refused c.args.p.now c.args.id c.args.level c.args.bytes.now _ _ _ c.read_fields-fields.ensures c.args.old c.requires.2
    c.check_link-reply.result _ c.then_some-taken.ensures c.check_link-reply.ensures x is)
    c.unchanged.ensures

pub resolve-verdict-requires : goal.resolve-verdict-requires
resolve-verdict-requires c =
    let full : length c.args.path.now ≡ 64 = search rules in
    new_unresolved (passed (goal.at.resolve-verdict-requires c).Else-is_err).1 c.requires.1 _ full

pub returns-then-is_err-2 : goal.returns-then-is_err-2
returns-then-is_err-2 c =
    let (x, is) = is_refused _ (sym c.is_err-2.ensures.value ∙ c.if-is_err-2.true) in
    let (refuses, long) =
    entry_refused (passed (goal.at.returns-then-is_err-2 c).Else-is_err).1 c.requires.1 _ c.resolve-verdict.result c.resolve-verdict.ensures.resolved x
    (sym c.check_verdict-reply.ensures ∙ is) in
    decides_refused c.args.p.now _ _ _ (adding c.args.id c.args.level c.args.bytes.now) _ long x _ c.requires.2 is refuses c.unchanged-then-is_err-2.ensures

pub returns : goal.returns
returns c =
    let (m, is) = is_accepted _ (sym c.is_err-2.ensures.value ∙ c.if-is_err-2.false) in
    entry_done (passed (goal.at.returns c).Else-is_err).1 c.requires.1 _ c.resolve-verdict.result c.resolve-verdict.ensures.resolved m
    (sym c.check_verdict-reply.ensures ∙ is) _ _ _ c.waiting_link.ensures (passed (goal.at.returns c).Else-is_err).0 c.step_of.ensures
