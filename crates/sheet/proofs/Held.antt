-- A formula of a field's setter was given to its link, which covers the field and reads its other covered fields. Assumes nothing.
use mathlib.Core.List.{List}
use Prim.Native.Nat.{ℕ, ◌<◌}
use mathlib.Core.Path.{◌≡◌, refl, ap}
use mathlib.Core.Bool.{Bool, true, false}
use mathlib.Core.Logic.{inl, inr, ◌≢◌}
use native.Mathlib.Omega.{arith}
use borrow.Author.Tests.{ltb-true}
use lib.Dec.{ltb}
use Rattle.std.specs.Prelude.{None}
use Rattle.fieldset.specs.Tables.{at}
use Rattle.panel.specs.declared.Panel.{Panel}
use Rattle.panel.specs.Items.{Item, link_at, reads_of}
use Rattle.panel.specs.Solution.{setter_reads}
use Rattle.panel.specs.Legal.{Legal}
use Rattle.panel.proofs.Reversed.{setter_link}
use Rattle.formulas.specs.Formulas.{Rule, formula_of, Held}
use Rattle.evaluation.proofs.Settled.{HeldAt}
use Rattle.sheet.specs.Sheets.{formula_at}
use Rattle.sheet.specs.Legal.{Fits}

-- the covered fields of a field's setter, where it is a link
abbrev pub setter_covered : Panel → ℕ → ℕ
setter_covered p f = (link_at p.links (at p.setter f)).covered

pub setter_held : (p : Panel) (formulas : List Rule) → Legal p → ((k : ℕ) → Fits (formula_at formulas k) (link_at p.links k))
    → (f : ℕ) → f < p.size → HeldAt (formula_of formulas p.setter) (setter_reads p) (setter_covered p) f
setter_held p formulas h fits f l = go (ltb (at p.setter f) 128) refl
  where
    i : ℕ
    i = at p.setter f

    low : f < 64
    low = omega (arith, h.few)

    held : ltb i 128 ≡ true → Fits (formula_at formulas i) (link_at p.links i) → formula_at formulas i ≢ None
        → Held (formula_at formulas i) (setter_covered p f) (setter_reads p f) f
    held t (inl e) n = absurd (n e)
    held t (inr (u, a)) n =
        let small : i < 128 = ltb-true i 128 t in
        let formed = h.formed i small u in
        record {
          small = formed.small;
          covers = formed.subset f low (h.holding_output i f small (h.setter_holds f low small));
          rest = ap (λ (c : Item). reads_of p.links c f) (setter_link p.setter f small);
          fitting = a;
        }

    go : (b : Bool) → ltb i 128 ≡ b → HeldAt (formula_of formulas p.setter) (setter_reads p) (setter_covered p) f
    go true t = rw t (held t (fits i))
    go false t = rw t (λ n. absurd (n refl))
