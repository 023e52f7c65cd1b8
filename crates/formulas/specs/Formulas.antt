-- Formulas of links, and what a link sets a field to (document 02, request 2).
use Rattle.std.specs.Prelude.{ℕ, ◌^◌, ◌<◌, ◌≡◌, Option, Some, None, Bool, true, false, ◌&&◌, cond, ◌≢◌, List, eqb, leb, ltb, ℤ, ◌-ℤ◌, get_or}
use Rattle.fieldset.specs.Tables.{at}
use Rattle.fieldset.specs.Fields.{member, without, lowest_of, size}
use Rattle.values.specs.Ratios.{scaled, Nearest}
use Rattle.values.specs.Sums.{total}
use Rattle.formulas.specs.declared.Formula.{Formula}
use Rattle.formulas.specs.declared.Formula.TheVariants.{Ratio, Sum}

-- the formula of a link, if it has one
abbrev pub Rule : Type 0
Rule = Option Formula

-- the formula of the setter of field f: "a link without formula, and a stay, keeps the value"
abbrev pub formula_of : List Rule → List ℕ → ℕ → Rule
formula_of rules setter f = cond (ltb (at setter f) 128) (get_or rules (at setter f) None) None

-- what a setter sets field f to, from the values of the fields that it reads. A ratio: "higher field = lower × p / q, or the reverse with q and p
-- swapped". A sum in g, which is the request's f: "makes covered field f the sum of the other covered fields, ..; a link that sets another one takes f
-- less the rest"
unfoldable pub computed : Rule → ℕ → ℕ → (ℕ → ℤ) → ℤ
computed None reads f v = v f
computed (Some (Ratio p q)) reads f v = cond (ltb (lowest_of reads) f) (scaled (v (lowest_of reads)) p q) (scaled (v (lowest_of reads)) q p)
computed (Some (Sum g)) reads f v = cond (eqb f g) (total v reads) (v g -ℤ total v (without reads g))

-- what the computation needs: numbers that kind 08 accepts, and a field to read
unfoldable pub Usable : Rule → ℕ → Type 0
Usable None reads = Unit {0}
Usable (Some (Ratio p q)) reads = (0 < p) × ((0 < q) × (0 < reads))
Usable (Some (Sum g)) reads = g < 64

-- "p and q from 1 to 65,535"
abbrev pub is_term : ℕ → Bool
is_term p = ltb 0 p && leb p 65535

-- a link over these covered fields can be given the formula: the cases of "BadFormula (p or q 0, wrong number of covered fields, f not covered)" are the
-- others, and so is what no frame can hold: no formula, and p or q over 65,535
unfoldable pub accepted : Rule → ℕ → Bool
accepted None covered = false
accepted (Some (Ratio p q)) covered = is_term p && (is_term q && eqb (size covered) 2)
accepted (Some (Sum g)) covered = ltb g 64 && (member covered g && leb 2 (size covered))

-- "each held formula is right, only for the field it sets": of a link over these covered fields that sets f, between the values v. A ratio: f has the
-- nearest whole number to the value of the other covered field × p / q, or × q / p. A sum: g has the sum of the other covered fields
unfoldable pub Right : Rule → ℕ → ℕ → (ℕ → ℤ) → Type 0
Right None covered f v = Unit {0}
Right (Some (Ratio p q)) covered f v =
    (g : ℕ) → g < 64 → member covered g ≡ true → g ≢ f → (g < f → Nearest (v g) p q (v f)) × (f < g → Nearest (v g) q p (v f))
Right (Some (Sum g)) covered f v = v g ≡ total v (without covered g)

-- a setter with a formula that kind 08 accepted for these covered fields sets f, one of them, and reads the others
pub record Held (formula : Rule) (covered reads f : ℕ) : Type 0 where
  pub small : covered < 2 ^ 64
  pub covers : member covered f ≡ true
  pub rest : reads ≡ without covered f
  pub fitting : accepted formula covered ≡ true
