-- What a plan's rows are written from, and what the operation then gives. The order over the table of reads is the panel's plan, since that goes by
-- the reads alone (`plan_listed`); the rows of all its fields, by the strengths in the table, are those of the definition (`plan_done`).
use mathlib.Core.Path.{◌≡◌, refl, sym, ap, ◌∙◌}
use mathlib.Core.List.{List, ◌++◌}
use Prim.Native.Nat.{ℕ, ◌≤◌, ◌<◌}
use native.Mathlib.Omega.{arith}
use borrow.Author.Tests.{lt-ltb}
use lib.ListN.{length, take, drop}
use lib.Seq.{sets, take-append_seam}
use Rattle.std.proofs.lemmas.List.{take_all}
use Rattle.fieldset.specs.Tables.{at}
use Rattle.fieldset.specs.Fields.{member}
use Rattle.fieldset.proofs.Lists.{all_at}
use Rattle.ordering.specs.Order.{order}
use Rattle.ordering.proofs.Plan.{order_cong}
use Rattle.panel.specs.declared.Panel.{Panel}
use Rattle.panel.specs.declared.Refusal.TheVariants.{NotOpen}
use Rattle.std.specs.Prelude.{Ok, Err}
use Rattle.panel.specs.Answers.{Answer}
use Rattle.panel.specs.Solution.{setter_reads, plan_of, rows_of}
use Rattle.panel.specs.Steps.{plan_step}
use Rattle.panel.specs.Commands.{checked, performed, planning}
use Rattle.panel.specs.Legal.{Legal}
use Rattle.panel.specs.Outcomes.{Plans}
use Rattle.tables.specs.Tables.{Tabled, StrengthsOf}
use Rattle.tables.proofs.Agreement.{panel_reads}
use Rattle.planning.proofs.Rows.{rows, rows_of_lem, Written}
use Rattle.planning.proofs.Replies.{plan_low, plan_length}

-- the fields of the plan stand at the start of the buffer
pub plan_listed : (p : Panel) (h : Legal p) (levels others reads : List ℕ) → Tabled p levels others reads
    → (listed before : List ℕ) (count : ℕ)
    → count ≡ length (order (at reads) p.size) → listed ≡ order (at reads) p.size ++ drop count before → take count listed ≡ plan_of p
unfolding plan_of
plan_listed p h levels others reads t listed before count co li =
    ap (take count) li
    ∙ ap (λ (k : ℕ). take k (order (at reads) p.size ++ drop count before)) co
    ∙ take-append_seam (order (at reads) p.size) (drop count before)
    ∙ order_cong (at reads) (setter_reads p) p.size (λ f i l k. ap (λ (m : ℕ). member m i) (panel_reads p h levels others reads t f l))

-- they are fields of the panel
pub plan_fields : (p : Panel) → Legal p → (fields : List ℕ) → fields ≡ plan_of p → (i : ℕ) → i < length fields → at fields i < 64
plan_fields p h fields e i l =
    let low : at fields i < p.size = rw e (all_at (λ f. f < p.size) 0 (plan_of p) (plan_low p h) i (rw e at l)) in
    omega (arith, h.few)

pub plan_closed : (p : Panel) (before : List ℕ) → p.size ≡ 0 → Plans p (Err NotOpen) before before
unfolding checked
plan_closed p before z = rw z (record { reply = refl; rows = refl; length_rows = refl; few = omega arith })

pub plan_done : (p : Panel) (table fields before after : List ℕ) (i : ℕ) → Legal p → 0 < p.size → StrengthsOf p table → fields ≡ plan_of p
    → Written p.setter table fields before after i → length fields ≤ i → Plans p (Ok p.size) before after
unfolding checked plan_step
plan_done p table fields before after i h some s listed w end =
    let answer : performed p planning ≡ plan_step p = rw (lt-ltb 0 p.size some) refl in
    let all : rows (at p.setter) (at table) (take i fields) ≡ rows_of p (plan_of p) =
    rw (take_all i fields end, listed) (rows_of_lem p (at table) s (plan_of p) (plan_low p h)) in
    record {
      reply = ap (λ (a : Answer). take 2 a.reply) (sym answer);
      rows = w.stored ∙ ap (λ (x : List ℕ). sets before 0 x) (all ∙ ap (λ (a : Answer). drop 2 a.reply) (sym answer));
      length_rows = plan_length p h;
      few = omega (arith, h.few);
    }
