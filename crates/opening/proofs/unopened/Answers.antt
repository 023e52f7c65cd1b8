use mathlib.Core.Path.{refl, sym}
use native.Mathlib.Omega.{arith}
use Rattle.fieldset.proofs.Maps.{mapped_none, mapped_more}
use Rattle.opening.proofs.Made.{made_unopened}
use Rattle.opening.proofs.unopened.Goals as goal

pub loop-f-init : goal.loop-f-init
loop-f-init c = sym (mapped_none (λ g x. g) _)

pub loop-f-preserved : goal.loop-f-preserved
loop-f-preserved c = rw c.from.ensures (mapped_more (λ g x. g) _ _ _ _ (omega arith) c.loop-f.invariant refl)

pub returns : goal.returns
returns c = made_unopened c.no_link.result _ _ _ c.no_link.ensures (omega arith) refl c.loop-f.invariant
