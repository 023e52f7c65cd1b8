-- The unopened panel, made of its parts: with all places written the table is that of the definition (`mapped_all`), and the panel at opening is
-- legal.
use mathlib.Core.Path.{◌≡◌, refl, sym, ap, ◌∙◌, subst}
use mathlib.Core.List.{List}
use Prim.Native.Nat.{ℕ, zero-le}
use native.Mathlib.Omega.{arith}
use lib.ListN.{length, replicate}
use Rattle.fieldset.specs.Tables.{tabulate}
use Rattle.panel.specs.declared.Link.{Link}
use Rattle.panel.specs.declared.Panel.{Panel}
use Rattle.panel.specs.Items.{no_link}
use Rattle.panel.specs.Panels.{opened}
use Rattle.panel.specs.Legal.{Legal}
use Rattle.panel.proofs.Changes.{legal_opened}
use Rattle.fieldset.proofs.Maps.{mapped, mapped_all}

abbrev made : Link → List ℕ → Panel
made l place = record { size = 0; links = replicate 128 l; place = place; setter = replicate 64 128 }

pub made_unopened : (l : Link) (place before : List ℕ) (f : ℕ) → l ≡ no_link → f ≡ 64 → length before ≡ 64 → place ≡ mapped (λ g x. g) before f
    → (made l place ≡ opened 0) × Legal (made l place)
unfolding opened
made_unopened l place before f e end full t =
    let all : place ≡ tabulate (λ g. g) 64 =
    t ∙ ap (mapped (λ g x. g) before) end ∙ mapped_all (λ g x. g) before 64 (omega arith) in
    let same : made l place ≡ opened 0 = rw (e, all) refl in
    (same, subst Legal (sym same) (legal_opened 0 zero-le))
