-- `touching::check_touch` meets its contract: at each return the comparisons made decide the checks.
use native.Mathlib.Omega.{arith}
use Rattle.std.proofs.lemmas.Bool.Decides.{nat_tests}
use Rattle.panel.specs.Commands.{check_reply}
use Rattle.touching.proofs.check_touch.Goals as goal

pub returns-then-n-eq0 : goal.returns-then-n-eq0
unfolding check_reply
returns-then-n-eq0 c = grind (arith, nat_tests)

pub returns-then-n-from : goal.returns-then-n-from
unfolding check_reply
returns-then-n-from c = grind (arith, nat_tests)

pub returns : goal.returns
unfolding check_reply
returns c = grind (arith, nat_tests)
