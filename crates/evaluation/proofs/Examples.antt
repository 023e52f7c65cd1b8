-- A worked run: three fields, field 1 is sixty times field 0 (ratio 60 to 1), and field 2 is the sum of both; 7 in field 0.
use Prim.Native.Nat.{ℕ}
use mathlib.Core.Path.{◌≡◌, refl}
use mathlib.Core.Bool.{true, false}
use mathlib.Core.List.{[], ◌∷◌}
use lib.IntN.{pos, negsuc}
use lib.ListN.{get_or}
use Rattle.std.specs.Prelude.{Some, None}
use Rattle.fieldset.specs.Tables.{at}
use Rattle.fieldset.specs.Numbers.{lowest}
use Rattle.fieldset.specs.Fields.{member, without, lowest_of, set_of}
use Rattle.values.specs.Ratios.{scaled, rounded}
use Rattle.values.specs.Sums.{sumℤ, total}
use Rattle.formulas.specs.declared.Formula.TheVariants.{Ratio, Sum}
use Rattle.formulas.specs.Formulas.{Rule, computed}
use Rattle.evaluation.specs.Runs.{run}

formula : ℕ → Rule
formula f = get_or (None ∷ Some (Ratio 60 1) ∷ Some (Sum 2) ∷ []) f None

-- field 1 reads field 0, field 2 reads both
reads : ℕ → ℕ
reads f = at (0 ∷ 1 ∷ 3 ∷ []) f

sixty : run formula reads (0 ∷ 1 ∷ 2 ∷ []) (pos 7 ∷ pos 0 ∷ pos 0 ∷ []) ≡ record { fits = true; values = pos 7 ∷ pos 420 ∷ pos 427 ∷ [] }
unfolding formula reads run computed scaled rounded total sumℤ member without set_of lowest_of lowest
sixty = refl

-- too large in field 1: the run stops there
too_large : run formula reads (0 ∷ 1 ∷ 2 ∷ []) (negsuc 35791394 ∷ pos 0 ∷ pos 0 ∷ []) ≡ record { fits = false; values = negsuc 35791394 ∷ pos 0 ∷ pos 0 ∷ [] }
unfolding formula reads run computed scaled rounded total sumℤ member without set_of lowest_of lowest
too_large = refl
