use native.Mathlib.Omega.{arith}
use mathlib.Core.Path.{◌∙◌}
use Rattle.hexadecimal.proofs.Digits.{digits_at}
use Rattle.parsing.proofs.Entries.{placing_none, placing_digits, placing_on, placing_all}
use Rattle.parsing.proofs.enter_order.Goals as goal

pub loop-k-init : goal.loop-k-init
loop-k-init c = placing_none _ _ _ (omega (arith, c.min-n.ensures, c.saturating_sub.ensures))

pub byte-f-requires : goal.byte-f-requires
byte-f-requires c =
    let h = placing_digits c.loop-k.invariant c.loop-k-test.true in
    (digits_at c.args.line.now _ c.requires (omega (arith, h.0)), digits_at c.args.line.now _ c.requires h.0)

pub loop-k-preserved : goal.loop-k-preserved
loop-k-preserved c = placing_on c.loop-k.invariant _ _ c.loop-k-test.true (c.from.ensures ∙ c.byte-f.ensures) c.store.ensures

pub returns : goal.returns
returns c = placing_all c.loop-k.invariant (omega arith)
