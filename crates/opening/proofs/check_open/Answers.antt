-- `opening::check_open` meets its contract: at each return the comparisons made decide the checks.
use native.Mathlib.Omega.{arith}
use Rattle.std.proofs.lemmas.Bool.Decides.{nat_tests}
use Rattle.panel.specs.Commands.{check_reply}
use Rattle.opening.proofs.check_open.Goals as goal

pub returns-then-size-ne0 : goal.returns-then-size-ne0
unfolding check_reply
returns-then-size-ne0 c = grind (arith, nat_tests)

pub returns-then-n-eq0 : goal.returns-then-n-eq0
unfolding check_reply
returns-then-n-eq0 c = let e = c.then-n-eq0.either in grind (arith, nat_tests)

pub returns : goal.returns
unfolding check_reply
returns c = grind (arith, nat_tests)
