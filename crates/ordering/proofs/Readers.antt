-- Laws of the readers of each field: of the loop that changes the entries of some fields (`Mapping`), which enters one field as a reader, and of
-- that over all fields: an entry of the table changes only for the fields that are read, and gains the one bit (`readers_step`).
use Prim.Native.Nat.{ℕ, suc, ◌+◌, ◌<◌}
use mathlib.Core.Path.{◌≡◌, refl, ap, ◌∙◌}
use mathlib.Core.Bool.{Bool, true, false, ◌&&◌, cond}
use mathlib.Core.List.{List}
use mathlib.Core.Logic.{◌≢◌}
use native.Mathlib.Nat.{le_refl}
use native.Mathlib.Numerals.{add-one}
use native.Mathlib.Decide.{ℕ_discrete}
use native.Mathlib.Omega.{arith}
use borrow.Author.Tests.{lt-ltb, le-ltb}
use lib.Dec.{ltb}
use lib.ListN.{length, set, replicate, length-set, get_or-replicate}
use lib.Seq.{get_or-set_same, get_or-set_other}
use Rattle.fieldset.specs.Tables.{at}
use Rattle.fieldset.specs.Fields.{member, with, without, lowest_of, First}
use Rattle.fieldset.proofs.Numbers.{ltb_suc}
use Rattle.fieldset.proofs.Fields.{member_empty, member_with_same, member_with_other}
use Rattle.fieldset.proofs.Emptying.{Emptying, empty_start, empty_step, empty_end, taken_was}
use Rattle.ordering.specs.Steps.{Mapped, MappedBy, Readers}

-- the entry of g is changed, or as it was
abbrev pub entry : (ℕ → ℕ → ℕ → Type 0) → List ℕ → List ℕ → Bool → ℕ → Type 0
entry changes before after true g = changes g (at before g) (at after g)
entry changes before after false g = at after g ≡ at before g

-- the entries of the fields of a set are changed, but for the rest
pub record Mapping (changes : ℕ → ℕ → ℕ → Type 0) (into : ℕ) (before after : List ℕ) (rest : ℕ) : Type 0 where
  pub long : length after ≡ 64
  pub loop : Emptying into (entry changes before after) rest

module _ {changes : ℕ → ℕ → ℕ → Type 0} {into : ℕ} {before : List ℕ} where
  pub mapping_start : length before ≡ 64 → Mapping changes into before before into
  mapping_start long = record { long = long; loop = empty_start (λ g l. refl) }

  pub mapping_end : {after : List ℕ} {rest : ℕ} → Mapping changes into before after rest → rest ≡ 0 → MappedBy changes into before after
  mapping_end {after} p z = record {
    changed = λ g l e. rw e at (empty_end p.loop z g l);
    kept = λ g l e. rw e at (empty_end p.loop z g l);
  }

  pub mapping_step : {after after' : List ℕ} {rest rest' x y : ℕ} → Mapping changes into before after rest → First rest x
      → changes x (at after x) y → after' ≡ set after x y → rest' ≡ without rest (lowest_of rest) → Mapping changes into before after' rest'
  mapping_step {after} {x = x} {y = y} p U r e q = rw e (record {
    long = length-set after x y ∙ p.long;
    loop = empty_step p.loop U q other (rw (get_or-set_same after x y 0 (rw p.long U.field)) (rw (taken_was p.loop U) at r));
  })
    where
      other : (b : Bool) (g : ℕ) → g < 64 → g ≢ x → entry changes before after b g → entry changes before (set after x y) b g
      other true g l d h = rw (get_or-set_other after x g y 0 d) h
      other false g l d h = get_or-set_other after x g y 0 d ∙ h

-- nobody reads: the readers among no fields
pub readers_start : {reads : ℕ → ℕ} → Readers reads 0 (replicate 64 0)
readers_start = record {
  each = λ g j l k. ap (λ x. member x j) (get_or-replicate 64 g 0 0 l) ∙ member_empty j ∙ rw (le-ltb j 0 (omega arith));
}

-- the field f is entered: the readers among the first f fields and it
pub readers_step : {reads : ℕ → ℕ} {f : ℕ} {before after : List ℕ} → f < 64 → Readers reads f before → Mapped (λ m. with m f) (reads f) before after
    → Readers reads (f + 1) after
readers_step {reads} {f} {before} {after} low t e = rw (add-one f) (record {
  each = λ g j l k. ap (λ x. member x j) (e.each g l) ∙ go g j l k (member (reads f) g) refl (ℕ_discrete j f);
})
  where
    go : (g j : ℕ) → g < 64 → j < 64 → (b : Bool) → member (reads f) g ≡ b → Dec (j ≡ f)
        → member (cond b (with (at before g) f) (at before g)) j ≡ (ltb j (suc f) && member (reads j) g)
    go g j l k true m (yes d) = rw (d, m, lt-ltb f (suc f) (le_refl (suc f))) (member_with_same (at before g) f low)
    go g j l k false m (yes d) = rw (d, m, lt-ltb f (suc f) (le_refl (suc f))) (t.each g f l low ∙ rw (le-ltb f f (le_refl f)))
    go g j l k b m (no d) = kept b ∙ t.each g j l k ∙ ap (λ x. x && member (reads j) g) (ltb_suc j f d)
      where
        kept : (b : Bool) → member (cond b (with (at before g) f) (at before g)) j ≡ member (at before g) j
        kept true = member_with_other (at before g) f j k d
        kept false = refl
