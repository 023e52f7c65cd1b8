use Prim.Native.Nat.{ℕ}
use mathlib.Core.Path.{ap}
use lib.IntN.{pos}
use lib.ListN.{get_or, take}
use lib.Seq.{get_or-take}
use mir.Facts.{to_z-of_z}
use mir.Syntax.{w32}
use mir.Val.{SFits}
use Rattle.frames.specs.Texts.{written}
use Rattle.images.specs.Images.{value_frames}
use Rattle.saving.proofs.Writing.{growing_none, wrote_as, lines_none, lines_on, value_short}
use borrow.Author.Rules.{rules}
use Rattle.saving.proofs.put_values.Goals as goal

pub loop-f-init : goal.loop-f-init
loop-f-init c = growing_none _ _ _ _ (lines_none _)

pub loop-f-preserved : goal.loop-f-preserved
loop-f-preserved c =
    let fits : SFits w32 (get_or (take c.args.n c.args.values.now) c.loop-f.f (pos 0)) = record { sfits = search rules } in
    let e = rw (to_z-of_z fits, get_or-take c.args.n c.args.values.now c.loop-f.f (pos 0) (search rules)) at c.bits_of.ensures in
    lines_on _ (value_short c.args.values.now) c.loop-f.invariant
    (wrote_as (ap (λ (x : ℕ). written (value_frames c.loop-f.f x)) e) c.put_value-q.ensures)
