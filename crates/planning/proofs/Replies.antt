-- A legal panel's plan, the length of the reply to it, and the panel that it leaves. Without a loop the plan lists every field (`plan_long`), with
-- three bytes each; the laws of the reply are by cases on whether the panel is open.
use Prim.Native.Nat.{ℕ, ◌*◌, ◌<◌}
use mathlib.Core.Path.{◌≡◌, refl, sym, ap, ◌∙◌}
use mathlib.Core.Bool.{Bool, true, false, not}
use mathlib.Core.List.{List, [], ◌∷◌}
use native.Mathlib.Omega.{arith}
use borrow.Author.Tests.{ltb-false}
use lib.Dec.{ltb}
use lib.ListN.{length, drop}
use Rattle.fieldset.specs.Lists.{All}
use Rattle.fieldset.specs.Tables.{at}
use Rattle.ordering.proofs.Plan.{no_loop_length, order_low}
use Rattle.panel.specs.declared.Panel.{Panel}
use Rattle.panel.specs.declared.Refusal.TheVariants.{NotOpen}
use Rattle.panel.specs.Solution.{setter_reads, strength_of, plan_of, is_looped}
use Rattle.panel.specs.Steps.{plan_step}
use Rattle.panel.specs.Commands.{check, checked, plan_checks, performed, planning}
use Rattle.panel.specs.Legal.{Legal}
use Rattle.panel.proofs.Checks.{checked_panel}
use Rattle.planning.proofs.Rows.{length_rows, rows_of_lem}

pub plan_keeps : (p : Panel) → (performed p planning).panel ≡ p
unfolding plan_step
plan_keeps p = checked_panel (λ (q : Panel). q ≡ p) p (plan_checks p) (plan_step p) refl (λ k. refl)

-- a legal panel's plan has every field
pub plan_long : (p : Panel) → Legal p → length (plan_of p) ≡ p.size
unfolding plan_of is_looped
plan_long p h = no_loop_length (setter_reads p) p.size h.loopless

pub plan_low : (p : Panel) → Legal p → All (λ f. f < p.size) (plan_of p)
unfolding plan_of
plan_low p h = order_low (setter_reads p) p.size h.few

-- behind its first two bytes the reply has three for each field; a panel that is not open has none
pub plan_length : (p : Panel) → Legal p → length (drop 2 (performed p planning).reply) ≡ 3 * p.size
unfolding checked plan_step
plan_length p h = go (ltb 0 p.size) refl where
  go : (b : Bool) → ltb 0 p.size ≡ b → length (drop 2 (checked p (check (not b) NotOpen ∷ []) (plan_step p)).reply) ≡ 3 * p.size
  go true e =
      ap length (sym (rows_of_lem p (strength_of p) (λ f l. refl) (plan_of p) (plan_low p h)))
      ∙ length_rows (at p.setter) (strength_of p) (plan_of p)
      ∙ ap (λ n. 3 * n) (plan_long p h)
  go false e = omega (arith, ltb-false 0 p.size e)
