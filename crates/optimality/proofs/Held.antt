-- What a legal panel holds: each field with its setter, in the order of the plan. Without a loop the plan has all fields, each once; a row names
-- the setter of its field, so the rows are the pairs (by induction on the fields), and an unopened panel holds none.
use Prim.Native.Nat.{ℕ, ◌≤◌, ◌<◌}
use mathlib.Core.Path.{◌≡◌, refl, sym}
use mathlib.Core.Bool.{false, cond}
use mathlib.Core.List.{List, [], ◌∷◌}
use native.Mathlib.Decide.{dec_lt}
use native.Mathlib.Omega.{arith}
use borrow.Author.Tests.{lt-ltb, le-ltb, eq-eqb, ne_eqb}
use lib.Dec.{eqb}
use lib.ListN.{length}
use Rattle.fieldset.specs.Tables.{at}
use Rattle.fieldset.specs.Lists.{All}
use Rattle.fieldset.proofs.Lists.{Whole}
use Rattle.ordering.proofs.Plan.{order_whole}
use Rattle.panel.specs.declared.Panel.{Panel}
use Rattle.panel.specs.Items.{Item, link, stay}
use Rattle.panel.specs.Solution.{setter_reads, plan_of, is_looped, rows_of}
use Rattle.panel.specs.Steps.{plan_step}
use Rattle.panel.specs.Commands.{planning, performed, checked}
use Rattle.panel.specs.Legal.{Legal}
use Rattle.panel.proofs.Reversed.{setter_link, setter_stay}
use Rattle.optimality.specs.Condition3.{rows, held}
use Rattle.optimality.proofs.Matchings.{pairs}
use Rattle.optimality.proofs.Graphs.{setters_of}

no_pairs : (st : ℕ → Item) (fs : List ℕ) → length fs ≡ 0 → [] ≡ pairs st fs
no_pairs st [] e = refl
no_pairs st (f ∷ fs) e = absurd (omega arith)

-- without a loop the plan has all fields, each once
pub plan_whole : (p : Panel) → p.size ≤ 64 → is_looped p ≡ false → Whole p.size (plan_of p)
unfolding plan_of is_looped
plan_whole p few loopless = order_whole (setter_reads p) p.size few loopless

module _ (p : Panel) (h : Legal p) where
  -- a row of the plan names the setter
  row_setter : (f : ℕ) → f < p.size → cond (eqb (at p.setter f) 0x80) (stay f) (link (at p.setter f)) ≡ setters_of p f
  row_setter f l = go (dec_lt (at p.setter f) 128)
    where
      few : p.size ≤ 64
      few = h.few

      go : Dec (at p.setter f < 128) → cond (eqb (at p.setter f) 0x80) (stay f) (link (at p.setter f)) ≡ setters_of p f
      go (yes k) = rw (ne_eqb (at p.setter f) 0x80 (omega arith)) (sym (setter_link p.setter f k))
      go (no k) = rw (eq-eqb (at p.setter f) 0x80 (omega (arith, h.setter_small f (omega arith)))) (sym (setter_stay p.setter f (omega arith)))

  rows_pairs : (fs : List ℕ) → All (λ f. f < p.size) fs → rows (rows_of p fs) ≡ pairs (setters_of p) fs
  unfolding rows rows_of
  rows_pairs [] a = refl
  rows_pairs (f ∷ fs) a = rw (row_setter f a.0, rows_pairs fs a.1)

  -- what the panel holds
  pub held_pairs : held (performed p planning).reply ≡ pairs (setters_of p) (plan_of p)
  unfolding held checked plan_step
  held_pairs = go (dec_lt 0 p.size)
    where
      whole : Whole p.size (plan_of p)
      whole = plan_whole p h.few h.loopless

      go : Dec (0 < p.size) → held (performed p planning).reply ≡ pairs (setters_of p) (plan_of p)
      go (yes l) = rw (lt-ltb 0 p.size l) (rows_pairs (plan_of p) whole.below)
      go (no l) = rw (le-ltb 0 p.size (omega arith)) (no_pairs (setters_of p) (plan_of p) (omega (arith, whole.whole)))
