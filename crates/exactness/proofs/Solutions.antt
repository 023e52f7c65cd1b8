-- Values that are exact and within the limits are those of the run (`solution_meets`, by `complete`): so a run that stops early has none beside it, and a
-- run that ends has no others. Assumes nothing.
use Prim.Native.Nat.{ℕ, ◌<◌}
use mathlib.Core.Path.{◌≡◌, refl, sym, ap, subst, ◌∙◌}
use mathlib.Core.Bool.{Bool, true, false}
use mathlib.Core.List.{List}
use mathlib.Core.Logic.{◌⊎◌, inl, inr, ◌≢◌}
use native.Mathlib.Decide.{ℕ_discrete}
use native.Mathlib.Omega.{arith}
use borrow.Author.Tests.{ltb-true, ltb-false}
use lib.Dec.{ltb}
use lib.IntN.{ℤ, pos}
use lib.ListN.{set, length-set}
use lib.Seq.{get_or-set_same, get_or-set_other}
use Rattle.std.specs.Prelude.{None}
use Rattle.fieldset.specs.Tables.{at}
use Rattle.fieldset.specs.Lists.{All}
use Rattle.fieldset.proofs.Numbers.{clash}
use Rattle.fieldset.proofs.Fields.{member_empty}
use Rattle.fieldset.proofs.Lists.{all_in, all_map, whole_in}
use Rattle.ordering.proofs.Plan.{order_low, order_whole}
use Rattle.panel.specs.declared.Panel.{Panel}
use Rattle.panel.specs.Answers.{is_refusal}
use Rattle.panel.specs.Solution.{setter_reads, plan_of, is_looped}
use Rattle.panel.specs.Commands.{touching}
use Rattle.panel.specs.Legal.{Legal}
use Rattle.panel.proofs.Performed.{legal_performed, Keeps}
use Rattle.values.specs.Limits.{value_at, outside}
use Rattle.formulas.specs.Formulas.{Rule, formula_of, Right}
use Rattle.evaluation.specs.Runs.{Run}
use Rattle.evaluation.proofs.Settled.{HeldAt, right_computed}
use Rattle.evaluation.proofs.Complete.{Target, Meets, complete}
use Rattle.evaluation.proofs.Planned.{order_ordered}
use Rattle.sheet.specs.declared.Sheet.{Sheet}
use Rattle.sheet.specs.Sheets.{sheet_of, evaluated}
use Rattle.sheet.specs.Commands.{Answer, entering, renewed, entered, performed}
use Rattle.sheet.specs.Legal.{LegalSheet}
use Rattle.sheet.proofs.Legal.{Left, Stored, entering_cases, legal_sheet, Touched}
use Rattle.sheet.proofs.Legal as legality
use Rattle.sheet.proofs.Held.{setter_covered, setter_held}
use Rattle.exactness.specs.Values.{Exact, touched, Solution, OutOfRangeExactly, ValuesOnly}
use Rattle.exactness.proofs.Values.{entered_exactly, entering_exactly}

module _ (s : Sheet) (h : LegalSheet s) (f : ℕ) (v : ℤ) (ok : is_refusal (touched s f).reply ≡ false) where
  abbrev q : Panel
  q = (touched s f).panel

  legal : Legal q
  legal = legal_performed s.panel (touching f) h.panel

  kept : Touched s h f q
  kept = go (legality.touched s h f)
    where
      go : Keeps (Touched s h f) s.panel (touched s f) → Touched s h f q
      go (inl (r, d)) = absurd (clash r ok)
      go (inr (r, t)) = t

  abbrev formula : ℕ → Rule
  formula = formula_of s.formulas q.setter

  held : (g : ℕ) → g < q.size → HeldAt formula (setter_reads q) (setter_covered q) g
  held = setter_held q s.formulas legal kept.fits

  abbrev result : Run
  result = evaluated q s.formulas (set s.values f v)

  module _ (values : List ℤ) (x : Solution s f v values) where
    -- each setter's formula is right
    right : (g : ℕ) → g < q.size → Right (formula g) (setter_covered q g) g (value_at values)
    unfolding Right
    right g l = go (ltb (at q.setter g) 128) refl
      where
        go : (b : Bool) → ltb (at q.setter g) 128 ≡ b → Right (formula g) (setter_covered q g) g (value_at values)
        go true t =
            let small = ltb-true (at q.setter g) 128 t in
            rw t (x.exact.right (at q.setter g) g small (legal.setter_holds g (omega (arith, legal.few)) small))
        go false t = rw t tt

    -- what has no formula has the value that the run begins with
    starts : (g : ℕ) → g < q.size → formula g ≡ None → value_at (set s.values f v) g ≡ value_at values g
    starts g l none = go (ℕ_discrete g f)
      where
        stays : (b : Bool) → ltb (at q.setter g) 128 ≡ b → g ≢ f → value_at values g ≡ value_at s.values g
        stays true t d =
            let small = ltb-true (at q.setter g) 128 t in
            x.exact.link_keeps (at q.setter g) g small (legal.setter_holds g (omega (arith, legal.few)) small) (rw t at none)
        stays false t d =
            x.exact.stay_keeps g l (omega (arith, ltb-false (at q.setter g) 128 t, legal.setter_small g (omega (arith, legal.few)))) d

        go : Dec (g ≡ f) → value_at (set s.values f v) g ≡ value_at values g
        go (yes d) = rw d (get_or-set_same s.values f v (pos 0) (omega (arith, h.values_length, kept.low, h.panel.few)) ∙ sym x.exact.stored)
        go (no d) = get_or-set_other s.values f g v (pos 0) d ∙ sym (stays (ltb (at q.setter g) 128) refl d)

    solution_meets : Meets (value_at values) 0 (plan_of q) result
    unfolding plan_of
    solution_meets =
        complete formula (setter_reads q) (setter_covered q) (value_at values) 0 (plan_of q) (set s.values f v) (length-set s.values f v ∙ h.values_length)
        (order_ordered (setter_reads q) q.size legal.few)
        (all_map (λ g. g < q.size) (HeldAt formula (setter_reads q) (setter_covered q)) held (plan_of q) low)
        (all_map (λ g. g < q.size) (Target formula (setter_reads q) (value_at values))
        (λ g l. record { computes = right_computed (value_at values) (formula g) (held g l) (right g l); within = x.within g l }) (plan_of q) low)
        (λ g l m. absurd (clash m (member_empty g))) (λ g i none. starts g (all_in (λ g. g < q.size) (plan_of q) g low i) none)
      where
        low : All (λ g. g < q.size) (plan_of q)
        low = order_low (setter_reads q) q.size legal.few

pub out_of_range_exactly : (s : Sheet) → LegalSheet s → OutOfRangeExactly s
unfolding entered
out_of_range_exactly s h f v ok free = (
  λ out values x. clash (solution_meets s h f v ok values x).fits ((entering_exactly s f v).out.0 out).2,
  λ none. (entering_exactly s f v).out.1 (ok, free, go (result s h f v ok).fits refl none),
)
  where
    -- the values of a run that ends are some
    solved : (result s h f v ok).fits ≡ true → Solution s f v (result s h f v ok).values
    solved t =
        let is : performed s (entering f v) ≡ renewed s (sheet_of (touched s f).panel s.formulas (result s h f v ok).values) =
        rw (ok, free, t) refl in
        record {
          exact =
              subst (λ (a : Answer). Exact s a.sheet f v) is (entered_exactly s h f v (ap (λ (a : Answer). is_refusal a.reply) is));
          within = λ g l. ap (λ (a : Answer). outside (value_at a.sheet.values g)) (sym is) ∙ (legal_sheet s h (entering f v)).within g;
        }

    go : (b : Bool) → (result s h f v ok).fits ≡ b → ((values : List ℤ) → Solution s f v values → ⊥) → (result s h f v ok).fits ≡ false
    go true t none = absurd (none _ (solved t))
    go false t none = t

pub values_only : (s : Sheet) → LegalSheet s → ValuesOnly s
unfolding plan_of is_looped
values_only s h f v ok values x g l = go (entering_cases s f v)
  where
    go : Left s (performed s (entering f v)) ⊎ Stored s f v (performed s (entering f v)) → value_at (performed s (entering f v)).sheet.values g ≡ value_at values g
    go (inl y) = absurd (clash y.refusal ok)
    go (inr a) =
        let p = legal s h f v a.touched in
        ap (λ (y : Answer). value_at y.sheet.values g) a.is
        ∙ (solution_meets s h f v a.touched values x).values g (omega (arith, p.few))
        (inr (whole_in (touched s f).panel.size (plan_of (touched s f).panel) (order_whole (setter_reads (touched s f).panel) _ p.few p.loopless) g l))
