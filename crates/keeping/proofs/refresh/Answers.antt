-- `keeping::refresh` meets its contract: where no reads differ the tables stay (`kept_still`); else the readers are told anew, and the downstream
-- sets are right but for those upstream of a changed field (`right_after`), which are repaired.
use mathlib.Core.Path.{◌∙◌}
use Rattle.fieldset.specs.Fields.{below, Within}
use Rattle.keeping.specs.Keeping.{Differ}
use Rattle.keeping.proofs.Changes.{differing_differ, differing_within, differ_same}
use Rattle.keeping.proofs.Repairing.{right_after}
use Rattle.keeping.proofs.Keeping.{kept_still}
use Rattle.keeping.proofs.refresh.Goals as goal
use Rattle.keeping.proofs.refresh.Goals.{After-differing-changed}

-- the fields whose reads differ are of the n
low : (c : After-differing-changed) → Within c.differing-changed.result (below c.args.n)
low c u l e =
    let s = c.args in
    c.requires.within.0 u l (differing_within s.kept.now.shown s.reads.now s.stale c.differing-changed.ensures u l e)

-- and all that differ
differ : (c : After-differing-changed) → Differ c.differing-changed.result c.args.kept.now.shown c.args.reads.now
differ c = differing_differ c.requires.within.1 c.differing-changed.ensures

pub returns-then-changed-eq0 : goal.returns-then-changed-eq0
returns-then-changed-eq0 c =
    let p = c.requires in
    kept_still p.kept.0 p.within.1 c.differing-changed.ensures p.kept.1 c.if-changed-eq0.true

pub upstream-before-requires : goal.upstream-before-requires
upstream-before-requires c = (c.requires.kept.0.among, low (goal.at.upstream-before-requires c).After-differing-changed)

pub reread-requires-clause-within : goal.reread-requires-clause-within
reread-requires-clause-within c =
    (low (goal.at.reread-requires-clause-within c).After-differing-changed, differ (goal.at.reread-requires-clause-within c).After-differing-changed)

pub upstream-after-requires : goal.upstream-after-requires
upstream-after-requires c = (c.requires.kept.2, low (goal.at.upstream-after-requires c).After-differing-changed)

pub repair-requires-clause-readers_value : goal.repair-requires-clause-readers_value
repair-requires-clause-readers_value c =
    let k = c.requires.kept.0 in
    let moved = differ_same k.among.few (differ (goal.at.repair-requires-clause-readers_value c).After-differing-changed) in (
      c.reread.ensures.1,
      right_after k.among c.requires.kept.2 moved k.down_are (c.union-affected.ensures ∙ rw (c.upstream-before.ensures, c.upstream-after.ensures)),
    )
