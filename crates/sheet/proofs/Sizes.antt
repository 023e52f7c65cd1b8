-- An open sheet keeps its number of fields, whatever the command: by the panel's law (`performed_size`) for the panel's commands and for the touch of
-- kind 07; kind 08 leaves the panel. Assumes nothing.
use Prim.Native.Nat.{◌<◌}
use mathlib.Core.Path.{◌≡◌, refl, ap, ◌∙◌}
use mathlib.Core.Logic.{◌⊎◌, inl, inr}
use Rattle.panel.specs.Commands.{touching}
use Rattle.panel.proofs.Performed.{performed_size}
use Rattle.sheet.specs.declared.Sheet.{Sheet}
use Rattle.sheet.specs.Commands.{Command, solving, entering, relating, Answer, performed}
use Rattle.sheet.proofs.Legal.{Left, Stored, entering_cases}

pub sheet_size : (s : Sheet) (c : Command) → 0 < s.panel.size → (performed s c).sheet.panel.size ≡ s.panel.size
sheet_size s (solving c) is_open = performed_size s.panel c is_open
sheet_size s (entering f v) is_open = go (entering_cases s f v)
  where
    go : Left s (performed s (entering f v)) ⊎ Stored s f v (performed s (entering f v))
        → (performed s (entering f v)).sheet.panel.size ≡ s.panel.size
    go (inl l) = ap (λ (x : Sheet). x.panel.size) l.same
    go (inr a) = ap (λ (x : Answer). x.sheet.panel.size) a.is ∙ performed_size s.panel (touching f) is_open
sheet_size s (relating id formula) is_open = refl
