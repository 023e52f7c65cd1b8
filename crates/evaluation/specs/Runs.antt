-- One run over the whole plan.
use Rattle.std.specs.Prelude.{ℕ, ◌≤◌, ◌<◌, ◌≡◌, Bool, true, false, cond, ◌≢◌, List, [], ◌∷◌, ℤ, length, set, None}
use Rattle.fieldset.specs.Tables.{at}
use Rattle.fieldset.specs.Fields.{member, with, within}
use Rattle.ordering.specs.Order.{has_loop}
use Rattle.ordering.specs.Walks.{Among}
use Rattle.values.specs.Limits.{value_at, outside}
use Rattle.formulas.specs.Formulas.{Rule, computed, Usable, Right}

-- whether every result was within the limits, and the values at the end, or where the run stopped
pub record Run : Type 0 where
  pub fits : Bool
  pub values : List ℤ

-- "runs the whole plan once": each field of the list gets what its setter computes; the first result outside the limits ends the run
unfoldable pub run : (ℕ → Rule) → (ℕ → ℕ) → List ℕ → List ℤ → Run
run formula reads [] v = record { fits = true; values = v }
run formula reads (f ∷ fs) v =
    let x = computed (formula f) (reads f) f (value_at v) in
    cond (outside x) (record { fits = false; values = v }) (run formula reads fs (set v f x))

-- what is answered of a run, and the values that it leaves
pub record Ran (result : Run) (fits : Bool) (values : List ℤ) : Type 0 where
  pub answer : fits ≡ result.fits
  pub left : values ≡ result.values

-- what a run over the first n fields of a buffer needs
pub record Runnable (formula : ℕ → Rule) (reads : ℕ → ℕ) (order : List ℕ) (n : ℕ) : Type 0 where
  pub few : n ≤ 64
  pub long : n ≤ length order
  pub fields : (i : ℕ) → i < n → at order i < 64
  pub usable : (i : ℕ) → i < n → Usable (formula (at order i)) (reads (at order i))

-- what a run over the plan of n fields needs
pub record Ready (formula : ℕ → Rule) (reads : List ℕ) (n : ℕ) : Type 0 where
  pub few : n ≤ 64
  pub among : Among reads n
  pub loopless : has_loop (at reads) n ≡ false
  pub usable : (f : ℕ) → f < n → Usable (formula f) (at reads f)

-- what is answered of a run, and the values after it: where it did not end, those before
pub record Stored (result : Run) (before : List ℤ) (fits : Bool) (after : List ℤ) : Type 0 where
  pub answer : fits ≡ result.fits
  pub left : after ≡ cond result.fits result.values before

-- each field of the list stands behind those that its setter reads, and once; the fields of L were listed before
unfoldable pub Ordered : (ℕ → ℕ) → ℕ → List ℕ → Type 0
Ordered reads L [] = Unit {0}
Ordered reads L (f ∷ fs) = (f < 64) × ((member L f ≡ false) × ((within (reads f) L ≡ true) × Ordered reads (with L f) fs))

-- What holds of the values after x was stored in f and the plan was run, over n fields: f has x, every held formula is right for the
-- field it sets, and every other field whose setter has no formula keeps its value.
pub record Settled (formula : ℕ → Rule) (covered : ℕ → ℕ) (n f : ℕ) (x : ℤ) (before after : List ℤ) : Type 0 where
  pub has : value_at after f ≡ x
  pub right : (g : ℕ) → g < n → Right (formula g) (covered g) g (value_at after)
  pub kept : (g : ℕ) → g ≢ f → formula g ≡ None → value_at after g ≡ value_at before g
