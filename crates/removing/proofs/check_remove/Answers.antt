-- `removing::check_remove` meets its contract: at each return the comparisons made decide the checks.
use mathlib.Core.Path.{refl}
use native.Mathlib.Omega.{arith}
use borrow.Author.Tests.{lt-ltb, le-ltb}
use Rattle.panel.specs.Commands.{check_reply}
use Rattle.removing.proofs.check_remove.Goals as goal

pub returns-then-n-eq0 : goal.returns-then-n-eq0
unfolding check_reply
returns-then-n-eq0 c = rw (le-ltb 0 c.args.n (omega arith)) refl

pub returns-then-id-gt-LAST_LINK : goal.returns-then-id-gt-LAST_LINK
unfolding check_reply
returns-then-id-gt-LAST_LINK c =
    let b = c.args in
    rw (lt-ltb 0 b.n (omega arith), lt-ltb 127 b.id c.if-id-gt-LAST_LINK.true) refl

pub returns-then-not-used : goal.returns-then-not-used
unfolding check_reply
returns-then-not-used c =
    let b = c.args in
    rw (lt-ltb 0 b.n (omega arith), le-ltb 127 b.id c.if-id-gt-LAST_LINK.false, c.if-not-used.true) refl

pub returns : goal.returns
unfolding check_reply
returns c =
    let b = c.args in
    rw (lt-ltb 0 b.n (omega arith), le-ltb 127 b.id c.if-id-gt-LAST_LINK.false, c.if-not-used.false) refl
