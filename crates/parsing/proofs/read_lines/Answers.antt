use Prim.Native.Nat.{◌≤◌}
use native.Mathlib.Omega.{arith}
use lib.ListN.{length}
use Rattle.lines.proofs.Lines.{end_within}
use Rattle.parsing.proofs.Entries.{entering_none, next_less, entering_on, entering_all}
use borrow.Author.Rules.{rules}
use Rattle.parsing.proofs.read_lines.Goals as goal
use Rattle.parsing.proofs.read_lines.Goals.{After-line_end-end}

-- the line that ends here is in the text
line_within : (c : After-line_end-end) → (c.loop-from.from ≤ c.line_end-end.result) × (c.line_end-end.result ≤ length c.args.text.now)
line_within c = (omega (arith, c.line_end-end.ensures), end_within _ _ _ (search rules) c.line_end-end.ensures)

pub loop-from-init : goal.loop-from-init
loop-from-init c = entering_none _ _ c.unopened-s.ensures.0

pub slice_bounds-enter-start : goal.slice_bounds-enter-start
slice_bounds-enter-start c = let h = line_within (goal.at.slice_bounds-enter-start c).After-line_end-end in search rules

pub slice_bounds-enter-end : goal.slice_bounds-enter-end
slice_bounds-enter-end c = let h = line_within (goal.at.slice_bounds-enter-end c).After-line_end-end in search rules

pub loop-from-smaller : goal.loop-from-smaller
loop-from-smaller c = omega (arith, next_less _ _ _ _ (search rules) c.line_end-end.ensures c.behind-from.ensures)

pub loop-from-preserved : goal.loop-from-preserved
loop-from-preserved c =
    entering_on _ _ _ _ (search rules) c.line_end-end.ensures c.behind-from.ensures _ _ c.loop-from.invariant c.enter.ensures

pub returns : goal.returns
returns c = entering_all _ _ _ (search rules) c.loop-from.invariant
