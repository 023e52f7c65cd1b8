-- The number and values of a line's command, and of a formula, tell its cases apart: it is read back from them (`command_at_lem`, `formula_in_lem`), so equal
-- ones come from equal answers. Assumes nothing.
use mathlib.Core.Path.{◌≡◌, refl, sym, ap, ap₂, ◌∙◌}
use mathlib.Core.Bool.{Bool, true, false, cond, true≢false}
use mathlib.Core.List.{List, [], ◌∷◌}
use Prim.Native.Nat.{ℕ, ◌+◌, ◌*◌, ◌/◌, ◌%◌, ◌<◌}
use native.Mathlib.Omega.{arith}
use borrow.Author.Tests.{eqb-true}
use lib.Dec.{eqb}
use lib.ListN.{length, drop}
use Rattle.std.specs.Prelude.{Some, None}
use Rattle.fieldset.specs.Tables.{at}
use Rattle.fieldset.specs.Lists.{All}
use Rattle.panel.proofs.Answers.{refusal_at, refusal_at_lem}
use Rattle.frames.specs.declared.Command.{Command}
use Rattle.frames.specs.declared.Command.TheVariants.{Open, Add, Remove, Touch, Plan, Change, Enter, Relate, Refused}
use Rattle.formulas.specs.Formulas.{Rule}
use Rattle.formulas.specs.declared.Formula.TheVariants.{Ratio, Sum}
use Rattle.frames.specs.Frames.{fits_formula, formula_in, formula_bytes, command_bytes}

-- the command of a number and values
abbrev command_at : List ℕ → Command
command_at b =
    cond (eqb (at b 0) 0x01) (Open (at b 1))
    (cond (eqb (at b 0) 0x02) (Add (at b 1) (at b 2))
    (cond (eqb (at b 0) 0x03) (Remove (at b 1))
    (cond (eqb (at b 0) 0x04) (Touch (at b 1))
    (cond (eqb (at b 0) 0x05) Plan
    (cond (eqb (at b 0) 0x06) (Change (at b 1) (at b 2))
    (cond (eqb (at b 0) 0x07) (Enter (at b 1) (at b 2))
    (cond (eqb (at b 0) 0x08) (Relate (at b 1) (at b 2)) (Refused (refusal_at (drop 1 b))))))))))

command_at_lem : (c : Command) (fields : List ℕ) → command_at (command_bytes c fields) ≡ c
command_at_lem (Open n) fields = refl
command_at_lem (Add id level) fields = refl
command_at_lem (Remove id) fields = refl
command_at_lem (Touch f) fields = refl
command_at_lem Plan fields = refl
command_at_lem (Change id level) fields = refl
command_at_lem (Enter f b) fields = refl
command_at_lem (Relate id form) fields = refl
command_at_lem (Refused r) fields = ap Refused (refusal_at_lem r)

pub commands_apart : (c d : Command) (fields others : List ℕ) → command_bytes c fields ≡ command_bytes d others → c ≡ d
commands_apart c d fields others e = sym (command_at_lem c fields) ∙ ap command_at e ∙ command_at_lem d others

-- ---- formulas

formula_in_lem : (formula : Rule) → formula_in (formula_bytes formula) ≡ formula
formula_in_lem None = refl
formula_in_lem (Some (Ratio p q)) = ap₂ (λ (p q : ℕ). Some (Ratio p q)) (omega arith) (omega arith)
formula_in_lem (Some (Sum f)) = refl

pub formulas_apart : (a b : Rule) → formula_bytes a ≡ formula_bytes b → a ≡ b
formulas_apart a b e = sym (formula_in_lem a) ∙ ap formula_in e ∙ formula_in_lem b

-- what a frame of kind 08 has behind the link's number is the formula's own bytes
pub formula_frame : (b : List ℕ) → fits_formula (at b 0) (2 + length b) ≡ true → All (λ x. x < 256) b → formula_bytes (formula_in b) ≡ b
unfolding fits_formula
formula_frame b e bytes = go (eqb (at b 0) 0x01) refl (eqb (at b 0) 0x02) refl e
  where
    ratio : (b : List ℕ) → length b ≡ 5 → at b 0 ≡ 0x01 → All (λ x. x < 256) b → formula_bytes (formula_in b) ≡ b
    ratio [] l k a = absurd (omega arith)
    ratio (x ∷ []) l k a = absurd (omega arith)
    ratio (x ∷ y ∷ []) l k a = absurd (omega arith)
    ratio (x ∷ y ∷ z ∷ []) l k a = absurd (omega arith)
    ratio (x ∷ y ∷ z ∷ u ∷ []) l k a = absurd (omega arith)
    ratio (x ∷ y ∷ z ∷ u ∷ v ∷ []) l k (g, (h, (i, (m, (n, a))))) =
        let first : (y * 256 + z) / 256 ≡ y = omega arith in
        let second : (y * 256 + z) % 256 ≡ z = omega arith in
        let third : (u * 256 + v) / 256 ≡ u = omega arith in
        let fourth : (u * 256 + v) % 256 ≡ v = omega arith in
        rw (k, first, second, third, fourth) refl
    ratio (x ∷ y ∷ z ∷ u ∷ v ∷ w ∷ s) l k a = absurd (omega arith)

    sum : (b : List ℕ) → length b ≡ 2 → at b 0 ≡ 0x02 → formula_bytes (formula_in b) ≡ b
    sum [] l k = absurd (omega arith)
    sum (x ∷ []) l k = absurd (omega arith)
    sum (x ∷ y ∷ []) l k = rw k refl
    sum (x ∷ y ∷ z ∷ s) l k = absurd (omega arith)

    go : (x : Bool) → eqb (at b 0) 0x01 ≡ x → (y : Bool) → eqb (at b 0) 0x02 ≡ y
        → cond x (eqb (2 + length b) 7) (cond y (eqb (2 + length b) 4) false) ≡ true → formula_bytes (formula_in b) ≡ b
    go true d y f e = ratio b (omega (arith, eqb-true (2 + length b) 7 e)) (eqb-true (at b 0) 0x01 d) bytes
    go false d true f e = sum b (omega (arith, eqb-true (2 + length b) 4 e)) (eqb-true (at b 0) 0x02 f)
    go false d false f e = absurd (true≢false (sym e))
