use mathlib.Core.Path.{◌≡◌, sym, ap, ◌∙◌}
use mathlib.Core.Bool.{true}
use Prim.Native.Nat.{◌+◌, ◌*◌, ◌<◌}
use native.Mathlib.Omega.{arith}
use lib.ListN.{length, get_or}
use borrow.Author.Tests.{eqb-true, eqb-false}
use Rattle.std.proofs.lemmas.Grind.{common_steps}
use Rattle.edf.specs.Texts.{is_decimal}
use Rattle.edf.proofs.Numbers.{dropped_short, digit_range, few_small, digits_more, digits_stop, digits_all, read_none, read_other, read_plain}
use Rattle.edf.proofs.read_number.Goals as goal
use Rattle.edf.proofs.read_number.Goals.{Else-not-is_ascii_digit}

-- ---- the place: a round of the loop, whose character is a digit, and whose number so far is small

digit : (c : Else-not-is_ascii_digit) → is_decimal (get_or c.trimmed-digits.result.now c.loop-c.c-index 0) ≡ true
unfolding is_decimal
digit c = grind (arith, common_steps)

small : (c : Else-not-is_ascii_digit) → c.loop-c.n < 4294967296
small c =
    few_small c.loop-c.invariant (omega (arith, c.loop-c-test.true, ap length c.trimmed-digits.ensures, dropped_short c.args.field.now, c.requires))

-- ---- the goals

pub returns-then-is_empty : goal.returns-then-is_empty
returns-then-is_empty c = read_none _ _ c.trimmed-digits.ensures (eqb-true _ _ (sym c.is_empty.ensures ∙ c.if-is_empty.true))

pub returns-then-not-is_ascii_digit : goal.returns-then-not-is_ascii_digit
unfolding is_decimal
returns-then-not-is_ascii_digit c =
    read_other _ _ c.trimmed-digits.ensures
    (digits_stop c.loop-c.invariant c.loop-c-test.true (grind (arith, common_steps)))

pub overflow_mul-n : goal.overflow_mul-n
overflow_mul-n c = omega (arith, small c)

pub overflow_add-n : goal.overflow_add-n
overflow_add-n c =
    let at = (goal.at.overflow_add-n c).Else-not-is_ascii_digit in omega (arith, small at, (digit_range _ (digit at)).1, c.from.ensures)

pub loop-c-preserved : goal.loop-c-preserved
loop-c-preserved c =
    let at = (goal.at.loop-c-preserved c).Else-not-is_ascii_digit in
    digits_more c.loop-c.invariant c.loop-c-test.true (digit at) (ap (λ x. 10 * c.loop-c.n + x) c.from.ensures)

pub returns : goal.returns
returns c =
    let some : length c.trimmed-digits.result.now ≡ 0 → ⊥ = eqb-false _ _ (sym c.is_empty.ensures ∙ c.if-is_empty.false) in
    read_plain _ _ c.trimmed-digits.ensures (omega (arith, some)) (digits_all c.loop-c.invariant c.loop-c-test.false)
