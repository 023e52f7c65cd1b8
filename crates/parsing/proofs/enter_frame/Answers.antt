-- `parsing::enter_frame` meets its contract, by the kind of the line.
use mathlib.Core.Path.{◌≡◌, ◌∙◌}
use native.Mathlib.Omega.{arith}
use lib.ListN.{length}
use mir.Facts.{to_z-of_z}
use mir.Syntax.{w32}
use borrow.Author.Rules.{rules}
use Rattle.parsing.proofs.Entries.{enters_size, enters_order, enters_link, enters_formula, past_formulas, enters_value, past_values, enters_none}
use Rattle.parsing.proofs.enter_frame.Goals as goal

pub returns-in-10 : goal.returns-in-10
returns-in-10 c = enters_size c.args.line.now c.args.frame.now c.args.n c.requires.0 c.args.s.now c.in-10.is c.from-s.ensures

pub returns-in-11 : goal.returns-in-11
returns-in-11 c = enters_order c.args.line.now c.args.frame.now c.args.n c.requires.0 c.args.s.now c.in-11.is c.enter_order.ensures

pub returns-in-12 : goal.returns-in-12
returns-in-12 c = enters_link c.args.line.now c.args.frame.now c.args.n c.requires.0 c.args.s.now c.in-12.is c.enter_link.ensures

pub returns-then-id-lt128 : goal.returns-then-id-lt128
returns-then-id-lt128 c =
    enters_formula c.args.line.now c.args.frame.now c.args.n c.requires.0 c.args.s.now c.in-8.is c.from-id.ensures c.formula_in.ensures

pub returns-else-id-lt128 : goal.returns-else-id-lt128
returns-else-id-lt128 c =
    past_formulas c.args.line.now c.args.frame.now c.args.n c.requires.0 c.args.s.now _ c.in-8.is c.from-id.ensures (omega (arith, c.requires.1.formulas, c.if-id-lt128.false))

pub returns-then-id-lt64 : goal.returns-then-id-lt64
returns-then-id-lt64 c =
    enters_value c.args.line.now c.args.frame.now c.args.n c.requires.0 c.args.s.now c.in-13.is c.from-id.ensures c.word.ensures
    (to_z-of_z {w = w32} (record { sfits = c.of_bits.type_inv }) ∙ c.of_bits.ensures)

pub returns-else-id-lt64 : goal.returns-else-id-lt64
returns-else-id-lt64 c =
    let full : length c.args.s.now.values ≡ 64 = search rules in
    past_values c.args.line.now c.args.frame.now c.args.n c.requires.0 c.args.s.now _ c.in-13.is c.from-id.ensures (omega (arith, full, c.if-id-lt64.false))

pub returns-in_default : goal.returns-in_default
returns-in_default c = enters_none c.args.line.now c.args.frame.now c.args.n c.requires.0 c.args.s.now (search rules)
