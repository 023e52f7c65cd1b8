use Rattle.std.proofs.Common.{◌≡◌, ◌≢◌, length, ◌-◌, ◌∙◌, arith, get_or}
use Rattle.edf.proofs.Texts.{dropped_nothing, dropped_space, dropped_end}
use Rattle.edf.proofs.trimmed.Goals as goal

pub loop-text-preserved : goal.loop-text-preserved
loop-text-preserved c =
    let s = c.loop-text.text.now in
    let e : get_or s (length s - 1) 0 ≡ 32 = omega arith in
    dropped_space s (omega arith) e ∙ c.loop-text.invariant

pub returns-in_default : goal.returns-in_default
returns-in_default c = dropped_nothing c.loop-text.text.now (omega arith) ∙ c.loop-text.invariant

pub returns-in_default-2 : goal.returns-in_default-2
returns-in_default-2 c =
    let s = c.loop-text.text.now in
    let e : get_or s (length s - 1) 0 ≢ 32 = omega arith in
    dropped_end s (omega arith) e ∙ c.loop-text.invariant
