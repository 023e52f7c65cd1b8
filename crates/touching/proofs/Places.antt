-- The places of the stays with one at the front: entry by entry, f's is 0 and every other one is pushed if it stood before.
use mathlib.Core.Path.{◌≡◌, refl, sym, ap, ◌∙◌}
use mathlib.Core.Bool.{cond}
use mathlib.Core.List.{List}
use Prim.Native.Nat.{ℕ, ◌+◌, ◌<◌}
use native.Mathlib.Decide.{ℕ_discrete}
use native.Mathlib.Omega.{arith}
use borrow.Author.Tests.{eq-eqb, ne_eqb}
use lib.Dec.{ltb}
use lib.ListN.{length, set, length-set}
use lib.Seq.{ext_get_or, get_or-set_same, get_or-set_other}
use Rattle.fieldset.specs.Tables.{at, tabulate}
use Rattle.fieldset.proofs.Tables.{length_tabulate, get_d_tabulate}
use Rattle.panel.specs.Panels.{place_after}
use Rattle.fieldset.proofs.Maps.{mapped, mapped_all}

-- a place before `front` moves down one
abbrev pub pushed_at : ℕ → ℕ → ℕ → ℕ
pushed_at front g x = cond (ltb x front) (x + 1) x

pub front_set : (place : List ℕ) (f : ℕ) (l : List ℕ) → f < 64 → length place ≡ 64 → l ≡ mapped (pushed_at (at place f)) place 64
    → set l f 0 ≡ tabulate (place_after place f) 64
front_set place f l k full e =
    ext_get_or 0 (set l f 0) (tabulate (place_after place f) 64)
    (length-set l f 0 ∙ long ∙ sym (length_tabulate (place_after place f) 64))
    (λ g h. let hg : g < 64 = omega (arith, length-set l f 0, long) in entry g hg (ℕ_discrete g f) ∙ sym (get_d_tabulate (place_after place f) 64 g 0 hg))
  where
    pushed : ℕ → ℕ
    pushed g = pushed_at (at place f) g (at place g)

    whole : l ≡ tabulate pushed 64
    whole = e ∙ mapped_all (pushed_at (at place f)) place 64 (omega arith)

    long : length l ≡ 64
    long = ap length whole ∙ length_tabulate pushed 64

    entry : (g : ℕ) → g < 64 → Dec (g ≡ f) → at (set l f 0) g ≡ place_after place f g
    entry g h (yes d) = rw (d, eq-eqb f f refl) (get_or-set_same l f 0 0 (omega (arith, long)))
    entry g h (no d) = rw (ne_eqb g f d) (get_or-set_other l f g 0 0 d ∙ ap (λ (x : List ℕ). at x g) whole ∙ get_d_tabulate pushed 64 g 0 h)
