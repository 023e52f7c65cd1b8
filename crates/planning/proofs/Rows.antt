-- The rows of a plan, written one after the other: a row behind those that stand there is one run of stores with them (`written_more`).
use mathlib.Core.Path.{◌≡◌, refl, sym, ap, ◌∙◌}
use mathlib.Core.List.{List, [], ◌∷◌, ◌++◌}
use Prim.Native.Nat.{ℕ, ◌+◌, ◌*◌, ◌<◌}
use native.Mathlib.Numerals.{add-one}
use native.Mathlib.Omega.{arith}
use lib.ListN.{length, take, length-take}
use lib.Seq.{sets, take-suc}
use Rattle.fieldset.specs.Lists.{All}
use Rattle.fieldset.specs.Tables.{at}
use Rattle.fieldset.proofs.Tables.{sets_append}
use Rattle.panel.specs.declared.Panel.{Panel}
use Rattle.panel.specs.Solution.{strength_of, rows_of}

-- the rows of fields, by their setters and their strengths
module _ (setter strength : ℕ → ℕ) where
  abbrev pub row_of : ℕ → List ℕ
  row_of f = f ∷ setter f ∷ strength f ∷ []

  unfoldable pub rows : List ℕ → List ℕ
  rows [] = []
  rows (f ∷ fs) = f ∷ setter f ∷ strength f ∷ rows fs

  rows_more : (fs : List ℕ) (f : ℕ) → rows (fs ++ (f ∷ [])) ≡ rows fs ++ row_of f
  unfolding rows
  rows_more [] f = refl
  rows_more (g ∷ fs) f = ap (λ (x : List ℕ). g ∷ setter g ∷ strength g ∷ x) (rows_more fs f)

  pub length_rows : (fs : List ℕ) → length (rows fs) ≡ 3 * length fs
  unfolding rows
  length_rows [] = refl
  length_rows (g ∷ fs) = omega (arith, length_rows fs)

-- the rows of the first i of some fields stand at the start of the buffer
pub record Written (setter table fields before now : List ℕ) (i : ℕ) : Type 0 where
  pub low : (j : ℕ) → j < length fields → at fields j < 64
  pub stored : now ≡ sets before 0 (rows (at setter) (at table) (take i fields))

module _ {setter table fields before now : List ℕ} {i : ℕ} (w : Written setter table fields before now i) where
  abbrev done : List ℕ
  done = rows (at setter) (at table) (take i fields)

  -- one row more
  pub written_more : (after : List ℕ) (k : ℕ) → i < length fields → k ≡ at fields i
      → after ≡ sets now (3 * i) (at fields i ∷ at setter k ∷ at table k ∷ []) → Written setter table fields before after (i + 1)
  written_more after k few e is =
      let f = at fields i in
      let row = row_of (at setter) (at table) f in
      let here : after ≡ sets (sets before 0 done) (3 * i) row = is ∙ rw (e, w.stored) refl in
      let end : 3 * i ≡ 0 + length done = omega (arith, length_rows (at setter) (at table) (take i fields), length-take i fields) in
      let more : take (i + 1) fields ≡ take i fields ++ (f ∷ []) = ap (λ (k : ℕ). take k fields) (add-one i) ∙ take-suc fields i 0 few in
      record {
        low = w.low;
        stored = here
            ∙ ap (λ (j : ℕ). sets (sets before 0 done) j row) end
            ∙ sets_append before 0 done row
            ∙ ap (λ (x : List ℕ). sets before 0 x)
            (sym (ap (rows (at setter) (at table)) more ∙ rows_more (at setter) (at table) (take i fields) f));
      }

-- of a panel
pub rows_of_lem : (p : Panel) (strength : ℕ → ℕ) → ((f : ℕ) → f < p.size → strength f ≡ strength_of p f)
    → (fs : List ℕ) → All (λ f. f < p.size) fs → rows (at p.setter) strength fs ≡ rows_of p fs
unfolding rows rows_of
rows_of_lem p strength s [] a = refl
rows_of_lem p strength s (f ∷ fs) a = rw (s f a.0, rows_of_lem p strength s fs a.1) refl
