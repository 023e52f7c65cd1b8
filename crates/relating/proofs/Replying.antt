-- The reply of checks over numbers is that of a panel's checks which agree with them. Assumes nothing.
use Prim.Native.Nat.{ℕ, ◌%◌}
use mathlib.Core.Path.{◌≡◌, refl, ap}
use mathlib.Core.Bool.{not}
use borrow.Author.Tests.{ltb-false}
use native.Mathlib.Omega.{arith}
use Rattle.panel.specs.declared.Link.{Link}
use Rattle.panel.specs.declared.Panel.{Panel}
use Rattle.panel.specs.Items.{link_at}
use Rattle.panel.specs.Commands.{check_reply}
use Rattle.panel.proofs.Checks.{agree_reply, named_link}
use Rattle.formulas.specs.Formulas.{Rule, accepted}
use Rattle.sheet.specs.Commands.{check_formula, formula_checks}

-- the link of a number below 128 is the one under its remainder
pub formula_agrees : (p : Panel) (named : Link) (id : ℕ) (formula : Rule) → named ≡ link_at p.links (id % 128)
    → check_reply (check_formula p.size id named.used named.covered formula) ≡ check_reply (formula_checks p id formula)
formula_agrees p named id formula same =
    agree_reply _ _ (
      refl,
      refl,
      λ o. (
        refl,
        refl,
        λ n. (
          refl,
          refl,
          λ past.
              let here : named ≡ link_at p.links id = named_link p.links id named same (omega (arith, ltb-false 127 id n)) in
              (ap (λ (l : Link). not l.used) here, refl, λ u. (ap (λ (l : Link). not (accepted formula l.covered)) here, refl, λ a. tt)),
        ),
      ),
    )
