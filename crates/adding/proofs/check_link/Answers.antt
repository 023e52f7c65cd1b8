-- `adding::check_link` meets its contract: at each return the comparisons made decide the checks.
use mathlib.Core.Path.{refl}
use native.Mathlib.Omega.{arith}
use borrow.Author.Tests.{lt-ltb, le-ltb}
use Rattle.panel.specs.Commands.{check_reply}
use Rattle.adding.proofs.check_link.Goals as goal

pub returns-then-n-eq0 : goal.returns-then-n-eq0
unfolding check_reply
returns-then-n-eq0 c = rw (le-ltb 0 c.args.n (omega arith)) refl

pub returns-then-is_bad_link : goal.returns-then-is_bad_link
unfolding check_reply
returns-then-is_bad_link c = rw (lt-ltb 0 c.args.n (omega arith), ← c.is_bad_link.ensures, c.if-is_bad_link.true) refl

pub returns-then-not-within : goal.returns-then-not-within
unfolding check_reply
returns-then-not-within c =
    rw (
      lt-ltb 0 c.args.n (omega arith),
      ← c.is_bad_link.ensures,
      c.if-is_bad_link.false,
      ← c.below.ensures,
      ← c.within.ensures,
      c.if-not-within.true,
    ) refl

pub returns-in-Some : goal.returns-in-Some
unfolding check_reply
returns-in-Some c =
    rw (
      c.in-Some.is,
      lt-ltb 0 c.args.n (omega arith),
      ← c.is_bad_link.ensures,
      c.if-is_bad_link.false,
      ← c.below.ensures,
      ← c.within.ensures,
      c.if-not-within.false,
    ) refl

pub returns : goal.returns
unfolding check_reply
returns c =
    rw (
      c.in_default.is,
      lt-ltb 0 c.args.n (omega arith),
      ← c.is_bad_link.ensures,
      c.if-is_bad_link.false,
      ← c.below.ensures,
      ← c.within.ensures,
      c.if-not-within.false,
    ) refl
