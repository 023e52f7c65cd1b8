-- The kept tables from one panel to the next. Before they are refreshed they are those of the panel before the line, and the reads may differ from theirs
-- in the fields that got another setter (`stale_step`), since a setter that stays reads what it read (`reads_kept`); after a change of a link in any
-- field (`stale_change`). What is redrawn by the tables is then what is redrawn on the panel (`redrawn_is`).
use Prim.Native.Nat.{ℕ, ◌^◌, ◌≤◌, ◌<◌}
use mathlib.Core.Path.{◌≡◌, refl, sym, ap, ◌∙◌, subst}
use mathlib.Core.Bool.{false}
use mathlib.Core.List.{List}
use mathlib.Core.Logic.{◌⊎◌, inl, inr}
use native.Mathlib.Decide.{ℕ_discrete, dec_lt}
use native.Mathlib.Omega.{arith}
use borrow.Author.Tests.{lt-ltb}
use lib.ListN.{length, replicate, get_or-replicate}
use Rattle.fieldset.specs.Tables.{at}
use Rattle.fieldset.specs.Fields.{member, union, below, Within}
use Rattle.fieldset.proofs.Numbers.{clash}
use Rattle.fieldset.proofs.Fields.{member_below}
use Rattle.ordering.specs.Order.{has_loop}
use Rattle.ordering.specs.Walks.{Among}
use Rattle.downstream.specs.Downstream.{gathered}
use Rattle.downstream.proofs.Tables.{spread_ext}
use Rattle.keeping.specs.Keeping.{Kept, Differ}
use Rattle.keeping.proofs.Keeping.{kept_nothing, kept_opened, kept_spread}
use Rattle.panel.specs.declared.Panel.{Panel}
use Rattle.panel.specs.declared.Step.{Step}
use Rattle.panel.specs.Items.{setter_of}
use Rattle.panel.specs.Solution.{setter_reads}
use Rattle.panel.specs.Outcomes.{redrawn_by, Takes}
use Rattle.panel.specs.Legal.{Legal}
use Rattle.panel.proofs.Moved.{member_turned}
use Rattle.tables.specs.Tables.{Tabled}
use Rattle.tables.proofs.Agreement.{panel_among, panel_loopless, panel_reads}
use Rattle.taking.proofs.Taking.{reads_kept}

-- ---- the fields that get another setter

kept_setter : {p after : Panel} {k : ℕ} {path : List ℕ} {s : Step} → Takes p k path s after → (f : ℕ) → f < after.size → member s.changed f ≡ false
    → at p.setter f ≡ at after.setter f
kept_setter {p} {after} {s = s} d f l e = go (ℕ_discrete (at p.setter f) (at after.setter f))
  where
    go : Dec (at p.setter f ≡ at after.setter f) → at p.setter f ≡ at after.setter f
    go (yes same) = same
    go (no other) = absurd (clash (ap (λ (m : ℕ). member m f) d.changed ∙ (member_turned p after f).1 (l, other)) e)

changed_low : {p after : Panel} {k : ℕ} {path : List ℕ} {s : Step} → Takes p k path s after → Within s.changed (below after.size)
changed_low {p} {after} d f l e =
    member_below after.size f l
    ∙ lt-ltb f after.size ((member_turned p after f).0 (ap (λ (m : ℕ). member m f) (sym d.changed) ∙ e)).0

-- ---- the kept tables

-- what `keeping::refresh` asks of the reads of a panel
pub record Stale (n stale : ℕ) (reads shown readers down : List ℕ) : Type 0 where
  pub kept : Kept n shown readers down
  pub full : length reads ≡ 64
  pub among : Among reads n
  pub loopless : has_loop (at reads) n ≡ false
  pub low : Within stale (below n)
  pub differ : Differ stale shown reads

module _ {p : Panel} (h : Legal p) {levels others reads : List ℕ} (t : Tabled p levels others reads) where
  -- past its fields a panel reads nothing
  reads_past : (f : ℕ) → p.size ≤ f → f < 64 → at reads f ≡ 0
  unfolding setter_of
  reads_past f a b = (t.setting f b).reads_are ∙ rw (h.setter_past f a b) refl

  -- what is redrawn by the kept tables is what is redrawn on the panel
  pub redrawn_is : {readers down : List ℕ} → Kept p.size reads readers down → (changed : ℕ) → changed < 2 ^ 64 → (revalued : ℕ)
      → union (gathered (at down) changed) revalued ≡ redrawn_by changed revalued p
  unfolding redrawn_by
  redrawn_is k changed small revalued =
      ap (λ (m : ℕ). union m revalued)
      (kept_spread k changed small
      ∙ spread_ext (at reads) (setter_reads p) p.size (λ f i l k. ap (λ (m : ℕ). member m i) (panel_reads p h levels others reads t f l)) changed)

  -- any field may have other reads than the kept ones
  pub stale_any : {shown readers down : List ℕ} → Kept p.size shown readers down → ((f : ℕ) → p.size ≤ f → f < 64 → at shown f ≡ 0)
      → Stale p.size (below p.size) reads shown readers down
  stale_any {shown} k past = record {
    kept = k;
    full = t.reads_full;
    among = panel_among p h levels others reads t;
    loopless = panel_loopless p h levels others reads t;
    low = λ f l e. e;
    differ = record { same = λ f l e. go f l e (dec_lt f p.size) };
  }
    where
      go : (f : ℕ) → f < 64 → member (below p.size) f ≡ false → Dec (f < p.size) → at shown f ≡ at reads f
      go f l e (yes k) = absurd (clash (member_below p.size f l ∙ lt-ltb f p.size k) e)
      go f l e (no k) = past f (omega arith) l ∙ sym (reads_past f (omega arith) l)

  -- at the start nothing is kept
  pub stale_start : Stale p.size (below p.size) reads (replicate 64 0) (replicate 64 0) (replicate 64 0)
  stale_start = stale_any (kept_nothing p.size h.few) (λ f a b. get_or-replicate {A = ℕ} 64 f 0 0 b)

-- the size stays, or the panel was not open
abbrev pub Sizes : Panel → Panel → Type 0
Sizes p q = (q.size ≡ p.size) ⊎ (p.size ≡ 0)

module _ {p q : Panel} (h : Legal p) (legal : Legal q) (sizes : Sizes p q) where
  past : (f : ℕ) → q.size ≤ f → p.size ≤ f
  past f l = go sizes
    where
      go : Sizes p q → p.size ≤ f
      go (inl e) = omega arith
      go (inr z) = omega arith

  module _ {levels others reads : List ℕ} (t : Tabled p levels others reads) {readers down : List ℕ} (kept : Kept p.size reads readers down) where
    kept_sized : Kept q.size reads readers down
    kept_sized = go sizes
      where
        go : Sizes p q → Kept q.size reads readers down
        go (inl e) = rw e kept
        go (inr z) = kept_opened (subst (λ (n : ℕ). Kept n reads readers down) z kept) (λ f l. reads_past h t f (omega arith) l) q.size legal.few

    module _ {levels' others' reads' : List ℕ} (t' : Tabled q levels' others' reads') where
      -- after any change
      pub stale_change : Stale q.size (below q.size) reads' reads readers down
      stale_change = stale_any legal t' kept_sized (λ f a b. reads_past h t f (past f a) b)

      -- after a step
      pub stale_step : {k : ℕ} {path : List ℕ} {s : Step} → Takes p k path s q → k < 128 → Stale q.size s.changed reads' reads readers down
      stale_step {s = s} d small = record {
        kept = kept_sized;
        full = t'.reads_full;
        among = panel_among q legal levels' others' reads' t';
        loopless = panel_loopless q legal levels' others' reads' t';
        low = changed_low d;
        differ = record {
          same = λ f l e.
              (t.setting f l).reads_are ∙ sym (reads_kept d legal h small f l (same f l e (dec_lt f q.size))) ∙ sym (t'.setting f l).reads_are;
        };
      }
        where
          -- a field that did not get another setter
          same : (f : ℕ) → f < 64 → member s.changed f ≡ false → Dec (f < q.size) → at p.setter f ≡ at q.setter f
          same f l e (yes k) = kept_setter d f k e
          same f l e (no k) = h.setter_past f (past f (omega arith)) l ∙ sym (legal.setter_past f (omega arith) l)
