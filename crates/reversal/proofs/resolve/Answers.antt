-- `reversal::resolve` meets its contract: the greatest strength of the outputs tells whether the item is blocked (`free_path`); where it is, what
-- `decide` answers is what is to be done (`resolved`, `blocked_path`).
use Prim.Native.Nat.{◌<◌}
use native.Mathlib.Omega.{arith}
use borrow.Author.Tests.{le-ltb}
use Rattle.reversal.proofs.Deciding.{free_path, blocked_path, resolved}
use Rattle.reversal.proofs.resolve.Goals as goal

pub returns-then-s-level : goal.returns-then-s-level
returns-then-s-level c =
    let t = c.greatest-top.ensures in
    record {
      resolved = (le-ltb _ _ (rw t.is_greatest at c.if-s-level.true), c.requires.path_length);
      path_after = free_path _ _ _ _ _ _ _ t.is_greatest c.if-s-level.true;
    }

pub returns : goal.returns
returns c =
    let t = c.greatest-top.ensures in
    let over : c.args.level < c.greatest-top.result.strength = omega (arith, c.if-s-level.false) in record {
      resolved = resolved _ _ _ _ _ _ _ _ _ c.decide.result t.is_greatest over c.decide.ensures.decided;
      path_after = blocked_path _ _ _ _ _ _ _ _ t.is_greatest over c.decide.ensures.path_after;
    }
