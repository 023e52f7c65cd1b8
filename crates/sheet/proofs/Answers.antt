-- What a sheet may reply: kind 07 a refusal of the touch, one of two refusals of its own, or a moved count; kind 08 a refusal of its checks, or 00 00. Assumes nothing.
use Prim.Native.Nat.{ℕ, ◌≤◌}
use mathlib.Core.Bool.{Bool, true, false, cond}
use mathlib.Core.List.{List, [], ◌∷◌}
use lib.IntN.{ℤ}
use lib.ListN.{set}
use Rattle.fieldset.specs.Lists.{All}
use Rattle.fieldset.proofs.Fields.{size_le}
use Rattle.panel.specs.declared.Refusal.TheVariants.{OutOfRange, FieldDriven}
use Rattle.panel.specs.Answers as answers
use Rattle.panel.specs.Answers.{refusal_bytes, is_refusal}
use Rattle.panel.specs.Commands as panel
use Rattle.panel.specs.Commands.{touching, Check, check_reply}
use Rattle.sheet.specs.declared.Sheet.{Sheet}
use Rattle.sheet.specs.Sheets.{sheet_of, evaluated}
use Rattle.sheet.specs.Commands.{entering, refused, is_driven, renewed, entered, performed}

module _ (P : List ℕ → Type 0) where
  pub entering_reply : (s : Sheet) (f : ℕ) (v : ℤ) → P (panel.performed s.panel (touching f)).reply → P (0xFF ∷ refusal_bytes FieldDriven)
      → P (0xFF ∷ refusal_bytes OutOfRange) → ((m : ℕ) → m ≤ 64 → P (0x00 ∷ m ∷ [])) → P (performed s (entering f v)).reply
  unfolding entered
  entering_reply s f v t d o n =
      go (is_refusal a.reply) (is_driven a.panel f) (evaluated a.panel s.formulas (set s.values f v)).fits
    where
      a : answers.Answer
      a = panel.performed s.panel (touching f)

      -- the three tests of the definition
      go : (x y z : Bool) → P (cond x (record { sheet = s; reply = a.reply }) (cond y (refused s FieldDriven)
          (cond z (renewed s (sheet_of a.panel s.formulas (evaluated a.panel s.formulas (set s.values f v)).values))
          (refused s OutOfRange)))).reply
      go true y z = t
      go false true z = d
      go false false true = n _ (size_le _)
      go false false false = o

  pub checks_reply : (cs : List Check) → All (λ c. P (0xFF ∷ refusal_bytes c.refusal)) cs → P (0x00 ∷ 0 ∷ []) → P (check_reply cs)
  unfolding check_reply
  checks_reply [] a h = h
  checks_reply (c ∷ cs) a h = go c.applies (checks_reply cs a.1 h)
    where
      go : (b : Bool) → P (check_reply cs) → P (elim b [ true ↦ 0xFF ∷ refusal_bytes c.refusal | false ↦ check_reply cs ])
      go true ih = a.0
      go false ih = ih
