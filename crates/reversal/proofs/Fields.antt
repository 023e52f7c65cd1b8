-- The read fields after a reversal, and the set of a path's fields, one field at a time: a loop over a path takes one step of the fold for each field
-- (`reads_next`, `fields_more`).
use Prim.Native.Nat.{ℕ, ◌+◌, ◌≤◌, ◌<◌}
use mathlib.Core.Path.{◌≡◌, refl, sym, ap, ◌∙◌}
use mathlib.Core.Bool.{Bool, true, false, ◌||◌, or_assoc, or-false}
use mathlib.Core.List.{List, [], ◌∷◌, ◌++◌}
use native.Mathlib.Numerals.{add-one}
use borrow.Author.Tests.{eq-eqb, eqb-false, lt-ltb}
use lib.Dec.{eqb}
use lib.ListN.{length, take, drop, set, drop_of_length-le}
use lib.Seq.{drop-cons, take-suc, get_or-set_other}
use Rattle.fieldset.specs.Tables.{at}
use Rattle.fieldset.specs.Lists.{All}
use Rattle.fieldset.specs.Fields.{member, set_of, with, without, below, Within}
use Rattle.fieldset.proofs.Fields.{set_of_cong, member_setOf_lt, member_below}
use Rattle.fieldset.proofs.Numbers.{clash}
use Rattle.fieldset.proofs.Lists.{all_in}
use Rattle.keeping.specs.Keeping.{Differ}
use Rattle.panel.specs.Commands.{any_of}
use Rattle.panel.proofs.Moved.{any_in}
use Rattle.reversal.specs.Reversals.{reversed_reads, fields_of}

pub reads_next : (vs reads : List ℕ) (cover i k v w : ℕ) → i < length vs → k ≡ at vs i → v ≡ without cover k → w ≡ with (at reads k) k
    → reversed_reads (set reads k v) w (drop (i + 1) vs) ≡ reversed_reads reads cover (drop i vs)
unfolding reversed_reads
reads_next vs reads cover i k v w l ek ev ew = rw (add-one i, drop-cons vs i 0, ev, ew, ek)

pub reads_end : (vs reads : List ℕ) (cover i : ℕ) → length vs ≤ i → reversed_reads reads cover (drop i vs) ≡ reads
unfolding reversed_reads
reads_end vs reads cover i l = rw (drop_of_length-le vs l)

any_append : (f v : ℕ) (vs : List ℕ) → any_of (eqb f) (vs ++ (v ∷ [])) ≡ (any_of (eqb f) vs || eqb f v)
unfolding any_of
any_append f v [] = or-false (eqb f v)
any_append f v (u ∷ vs) = ap (λ (b : Bool). eqb f u || b) (any_append f v vs) ∙ sym (or_assoc (eqb f u) (any_of (eqb f) vs) (eqb f v))

pub fields_none : (path : List ℕ) → fields_of (take 0 path) ≡ 0
unfolding fields_of any_of set_of
fields_none path = refl

-- one field more
pub fields_more : (path : List ℕ) (i m k : ℕ) → i < length path → m ≡ fields_of (take i path) → k ≡ at path i → with m k ≡ fields_of (take (i + 1) path)
unfolding fields_of with
fields_more path i m k l em ek =
    set_of_cong (λ f. member m f || eqb f k) (λ f. any_of (eqb f) (take (i + 1) path)) 64 (λ f lf.
    ap (λ (b : Bool). b || eqb f k) (ap (λ (x : ℕ). member x f) em ∙ member_setOf_lt (λ f. any_of (eqb f) (take i path)) 64 f lf)
    ∙ ap (λ (x : ℕ). any_of (eqb f) (take i path) || eqb f x) ek
    ∙ sym (any_append f (at path i) (take i path))
    ∙ ap (any_of (eqb f)) (sym (ap (λ (x : ℕ). take x path) (add-one i) ∙ take-suc path i 0 l)))

-- only fields of the path get other reads
reads_other : (reads : List ℕ) (cover : ℕ) (vs : List ℕ) (f : ℕ) → any_of (eqb f) vs ≡ false → at (reversed_reads reads cover vs) f ≡ at reads f
unfolding reversed_reads any_of
reads_other reads cover [] f e = refl
reads_other reads cover (v ∷ vs) f e = go (eqb f v) refl (reads_other (set reads v (without cover v)) (with (at reads v) v) vs f)
  where
    later : List ℕ
    later = reversed_reads (set reads v (without cover v)) (with (at reads v) v) vs

    go : (b : Bool) → eqb f v ≡ b → (any_of (eqb f) vs ≡ false → at later f ≡ at (set reads v (without cover v)) f) → at later f ≡ at reads f
    go true t ih = absurd (clash refl (rw t at e))
    go false t ih = ih (rw t at e) ∙ get_or-set_other reads v f (without cover v) 0 (eqb-false f v t)

pub reads_differ : (reads : List ℕ) (cover : ℕ) (vs : List ℕ) → Differ (fields_of vs) reads (reversed_reads reads cover vs)
unfolding fields_of
reads_differ reads cover vs = record {
  same = λ f l e. sym (reads_other reads cover vs f (sym (member_setOf_lt (λ f. any_of (eqb f) vs) 64 f l) ∙ e));
}

-- the fields of a path are below n
pub fields_low : (n : ℕ) (vs : List ℕ) → All (λ v. v < n) vs → Within (fields_of vs) (below n)
unfolding fields_of
fields_low n vs all f l e = member_below n f l ∙ lt-ltb f n (find vs all (sym (member_setOf_lt (λ f. any_of (eqb f) vs) 64 f l) ∙ e))
  where
    find : (vs : List ℕ) → All (λ v. v < n) vs → any_of (eqb f) vs ≡ true → f < n
    find vs all e = all_in (λ v. v < n) vs f all (any_in f vs e)

-- a path has its first field
pub fields_first : (v : ℕ) (vs rest : List ℕ) → vs ≡ v ∷ rest → v < 64 → member (fields_of vs) v ≡ true
unfolding fields_of any_of
fields_first v vs rest e l = member_setOf_lt (λ f. any_of (eqb f) vs) 64 v l ∙ ap (any_of (eqb v)) e ∙ rw (eq-eqb v v refl)
