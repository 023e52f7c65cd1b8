-- The three commands of an import on a sheet of flows: the opening, the add of flow i, and its ratio. Each passes its checks; its step changes the
-- panel (`flow_added`), or one entry of the formulas.
use Prim.Native.Nat.{ℕ, suc, ◌*◌, ◌≤◌, ◌<◌}
use mathlib.Core.Path.{◌≡◌, refl, ap, ◌∙◌}
use mathlib.Core.Bool.{false, ◌||◌}
use mathlib.Core.List.{List, [], ◌∷◌}
use native.Mathlib.Omega.{arith}
use borrow.Author.Tests.{lt-ltb, le-ltb, ne_eqb}
use lib.Dec.{eqb, ltb}
use lib.IntN.{pos}
use lib.ListN.{set, replicate}
use Rattle.std.specs.Prelude.{Some, None}
use Rattle.fieldset.specs.Tables.{tabulate}
use Rattle.fieldset.proofs.Numbers.{ltb_suc}
use Rattle.fieldset.proofs.Tables.{set_table}
use Rattle.panel.specs.Items.{link_at}
use Rattle.panel.specs.Panels.{opened}
use Rattle.panel.specs.Commands.{opening, adding, Passes, open_checks}
use Rattle.formulas.specs.declared.Formula.TheVariants.{Ratio}
use Rattle.formulas.specs.Formulas.{Rule, accepted}
use Rattle.sheet.specs.Sheets.{unopened, sheet_of}
use Rattle.sheet.specs.Commands.{Answer, solving, relating, solved, related, formula_checks, performed}
use Rattle.panel.proofs.Checks.{checked_step, passes_reply}
use Rattle.imported.specs.Imported.{flow_link, flow_panel, flow_formulas, flow_sheet}
use Rattle.imported.proofs.Flows.{size_both, flow_bytes, flow_size, link_at_lem}
use Rattle.imported.proofs.Panels.{flow_added}

-- a sheet of flows, and the reply 00 and a moved count
abbrev pub answering : ℕ → ℕ → ℕ → ℕ → Answer
answering k i j m = record { sheet = flow_sheet k i j; reply = 0x00 ∷ m ∷ [] }

pub sheet_opened : (k : ℕ) → 0 < k → k ≤ 32 → performed unopened (solving (opening (2 * k))) ≡ answering k 0 0 0
unfolding opened flow_panel flow_formulas tabulate
sheet_opened k some few =
    let size : (eqb (2 * k) 0 || ltb 64 (2 * k)) ≡ false = rw (ne_eqb (2 * k) 0 (λ e. omega arith), le-ltb 64 (2 * k) (omega arith)) in
    ap (solved unopened (opening (2 * k))) (checked_step (opened 0) (open_checks (opened 0) (2 * k)) _ (refl, (size, tt)))

module _ (k i : ℕ) (few : k ≤ 32) (l : i < k) where
  pub sheet_added : performed (flow_sheet k i i) (solving (adding i 0 (flow_bytes i))) ≡ answering k (suc i) i 1
  sheet_added = ap (solved (flow_sheet k i i) (adding i 0 (flow_bytes i))) (flow_added k i few l)

  ratio_passes : Passes (formula_checks (flow_panel k (suc i)) i (Some (Ratio 1 60)))
  unfolding accepted
  ratio_passes =
      let there : link_at (flow_panel k (suc i)).links i ≡ flow_link i = link_at_lem k (suc i) i (omega arith) ∙ rw (lt-ltb i (suc i) (omega arith)) in (
        rw (flow_size k (suc i), lt-ltb 0 (2 * k) (omega arith)),
        (le-ltb 127 i (omega arith), (refl, (rw there refl, (rw (there, size_both i (omega arith)) refl, tt)))),
      )

  formulas_more : ◌≡◌ {A = List Rule} (set (flow_formulas i) i (Some (Ratio 1 60))) (flow_formulas (suc i))
  unfolding flow_formulas
  formulas_more =
      set_table None _ _ 128 i (Some (Ratio 1 60)) (omega arith) (rw (lt-ltb i (suc i) (omega arith)))
      (λ j d. rw (ltb_suc j i d))

  pub sheet_related : performed (flow_sheet k (suc i) i) (relating i (Some (Ratio 1 60))) ≡ answering k (suc i) (suc i) 0
  sheet_related =
      ap (related (flow_sheet k (suc i) i) i (Some (Ratio 1 60))) (passes_reply _ ratio_passes)
      ∙ ap (λ (x : List Rule). record { sheet = sheet_of (flow_panel k (suc i)) x (replicate 64 (pos 0)); reply = 0x00 ∷ 0 ∷ [] }) formulas_more
