-- Tables that are written from the front: the first entries are a function's, the rest is as it was. Two tables with the same entries are equal, and
-- an entry is that of the part it stands in.
use Prim.Native.Nat.{ℕ, suc, ◌+◌, ◌≤◌, ◌<◌}
use mathlib.Core.Path.{◌≡◌, refl, sym, ap, ◌∙◌}
use mathlib.Core.List.{List, [], ◌∷◌, ◌++◌, append_assoc, append-nil}
use native.Mathlib.Nat.{le_refl}
use native.Mathlib.Numerals.{add-one}
use native.Mathlib.Omega.{arith}
use borrow.Author.Tests.{lt-ltb, le-ltb}
use lib.ListN.{length, drop, set, length-append, length-drop, drop_of_length-le}
use lib.Seq.{drop-cons, set_at}
use Rattle.fieldset.specs.Tables.{at, tabulate}
use Rattle.fieldset.proofs.Tables.{length_tabulate, get_d_tabulated}

abbrev pub table_of : (ℕ → ℕ) → ℕ → List ℕ → List ℕ
table_of g n before = tabulate g n ++ drop n before

module _ (g : ℕ → ℕ) (before : List ℕ) where
  pub at_table : (n f : ℕ) → f < n → at (table_of g n before) f ≡ g f
  at_table n f l = get_d_tabulated g n before f ∙ rw (lt-ltb f n l)

  pub at_rest : (n f : ℕ) → n ≤ f → at (table_of g n before) f ≡ at before f
  at_rest n f l = get_d_tabulated g n before f ∙ rw (le-ltb f n l)

  pub length_table : (n : ℕ) → n ≤ length before → length (table_of g n before) ≡ length before
  length_table n l = simp (length-append, length-drop) (omega (arith, length_tabulate g n))

-- a table that is mapped in place: each entry becomes what its place and it give
module _ (g : ℕ → ℕ → ℕ) (before : List ℕ) where
  abbrev pub mapped : ℕ → List ℕ
  mapped n = table_of (λ i. g i (at before i)) n before

  pub mapped_none : mapped 0 ≡ before
  unfolding tabulate
  mapped_none = refl

  pub mapped_more : (f x : ℕ) (l : List ℕ) → f < length before → l ≡ mapped f → x ≡ g f (at l f) → set l f x ≡ mapped (f + 1)
  unfolding tabulate
  mapped_more f x l h t e =
      let here : at l f ≡ at before f = ap (λ (y : List ℕ). at y f) t ∙ at_rest (λ i. g i (at before i)) before f f (le_refl f) in
      rw (t, drop-cons before f 0, set_at (tabulate (λ i. g i (at before i)) f) (at before f) (drop (suc f) before) x f (length_tabulate _ f), e, here, add-one f)
      (sym (append_assoc (tabulate (λ i. g i (at before i)) f) (g f (at before f) ∷ []) (drop (suc f) before)))

  pub mapped_all : (n : ℕ) → length before ≤ n → mapped n ≡ tabulate (λ i. g i (at before i)) n
  mapped_all n l = ap (λ (x : List ℕ). tabulate (λ i. g i (at before i)) n ++ x) (drop_of_length-le before l) ∙ append-nil (tabulate (λ i. g i (at before i)) n)
