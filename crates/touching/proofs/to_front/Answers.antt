use mathlib.Core.Path.{◌≡◌, sym}
use native.Mathlib.Omega.{arith}
use borrow.Author.Rules.{rules}
use lib.ListN.{length}
use Rattle.fieldset.specs.Tables.{at}
use Rattle.fieldset.proofs.Maps.{mapped_none, mapped_more}
use Rattle.touching.proofs.Places.{pushed_at, front_set}
use Rattle.touching.proofs.to_front.Goals as goal

pub loop-x-init : goal.loop-x-init
loop-x-init c = sym (mapped_none (pushed_at (at c.args.place.now c.args.f)) c.args.place.now)

pub loop-x-preserved : goal.loop-x-preserved
loop-x-preserved c =
    let full : length c.args.place.now ≡ 64 = search rules in
    mapped_more (pushed_at (at c.args.place.now c.args.f)) c.args.place.now c.loop-x.x-index _ _ (omega (arith, full)) c.loop-x.invariant
    c.pushed.ensures

pub returns : goal.returns
returns c =
    let end : c.loop-x.x-index ≡ 64 = omega arith in
    front_set c.args.place.now _ _ c.requires (search rules) (rw end at c.loop-x.invariant)
