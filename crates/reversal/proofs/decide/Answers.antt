-- `reversal::decide` meets its contract. `Deciding` has what each callee asks and what its answers come to: the path of the lowest-numbered output
-- (`path_of`, `path_stored`), the read fields after its reversal (`after_among`), and the verdict by whether a loop of these goes through a field of the path
-- (`decided`).
use Prim.Native.Nat.{ℕ}
use mathlib.Core.Path.{◌≡◌, sym, ◌∙◌}
use mathlib.Core.Bool.{Bool, true, false}
use mathlib.Core.List.{List}
use Rattle.panel.specs.Outcomes.{PathOf}
use Rattle.reversal.specs.Reversals.{with_path, Found}
use Rattle.reversal.proofs.Deciding.{start_small, start_known, path_stored, path_of, after_among, path_low, decided}
use Rattle.reversal.proofs.decide.Goals as goal
use Rattle.reversal.proofs.decide.Goals.{After-path_from-count, After-loops_through}

found-path : (w : goal.After-path_from-count) → PathOf w.path_from-count.new.path w.path_from-count.result
found-path w = path_of w.ranges.outputs.fits w.requires w.lowest_at-v.ensures w.path_from-count.ensures

pub path_from-count-requires : goal.path_from-count-requires
path_from-count-requires c =
    let u = c.requires in
    let small = c.ranges.outputs.fits in
    let v = c.lowest_at-v.ensures in
    (u.acyclic, u.strengths, start_small small u v, start_known small u v, u.path_length)

pub reverse_reads-requires : goal.reverse_reads-requires
reverse_reads-requires c = found-path (goal.at.reverse_reads-requires c).After-path_from-count

pub path_fields-set-requires : goal.path_fields-set-requires
path_fields-set-requires c = found-path (goal.at.path_fields-set-requires c).After-path_from-count

pub loops_through-requires : goal.loops_through-requires
loops_through-requires c =
    let v = c.lowest_at-v.ensures in (
      rw c.reverse_reads.ensures (after_among c.ranges.outputs.fits c.requires v c.path_from-count.ensures),
      path_low c.ranges.outputs.fits c.requires v c.path_from-count.ensures c.path_fields-set.ensures,
    )

-- the path is found, and it is known whether its reversal has a loop
found : (h : goal.After-loops_through) (looped : Bool) → h.loops_through.result ≡ looped → let a = h.args in Found a.levels.now a.others.now a.n a.s a.outputs a.covered a.reads.now h.path_from-count.new.path h.path_from-count.result looped
found h looped e =
    decided h.ranges.outputs.fits h.requires h.lowest_at-v.ensures h.path_from-count.ensures h.reverse_reads.ensures h.path_fields-set.ensures
    (sym e ∙ h.loops_through.ensures)

stored : (h : goal.After-loops_through) → let a = h.args in h.path_from-count.new.path ≡ with_path a.levels.now a.others.now a.n a.s a.outputs a.path.now
stored h =
    path_stored h.ranges.outputs.fits h.requires h.lowest_at-v.ensures h.path_from-count.ensures

pub returns-then-loops_through : goal.returns-then-loops_through
returns-then-loops_through c =
    let h = (goal.at.returns-then-loops_through c).After-loops_through in
    record { decided = (_, found h true c.if-loops_through.true); path_after = stored h }

pub returns : goal.returns
returns c =
    let h = (goal.at.returns c).After-loops_through in
    record { decided = (found h false c.if-loops_through.false, c.path_fields-set.ensures); path_after = stored h }
