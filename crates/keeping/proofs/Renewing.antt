-- Laws of the table of direct readers while the reads of some fields change: of one field that is struck out and entered (`renewed`), and of the loop
-- over all that change (`Rereading`), in which the readers are at each time those of the reads that are shown.
use Prim.Native.Nat.{ℕ, ◌^◌, ◌≤◌, ◌<◌}
use mathlib.Core.Path.{◌≡◌, refl, sym, ap, ◌∙◌}
use mathlib.Core.Bool.{Bool, true, false, not, ◌&&◌, cond}
use mathlib.Core.List.{List}
use mathlib.Core.Logic.{◌≢◌}
use native.Mathlib.Decide.{ℕ_discrete}
use native.Mathlib.Omega.{arith}
use borrow.Author.Tests.{lt-ltb}
use lib.Dec.{ltb}
use lib.ListN.{length, length-set}
use lib.ListN.{set as put}
use lib.Seq.{get_or-set_same, get_or-set_other, ext_get_or}
use Rattle.fieldset.specs.Tables.{at}
use Rattle.fieldset.specs.Fields.{member, with, without, only, minus, lowest_of, First}
use Rattle.fieldset.proofs.Fields.{ext_member, member_filter, member_with_same, member_with_other, member_without_same, member_without_other, with_lt, without_lt}
use Rattle.fieldset.proofs.Emptying.{Emptying, empty_start, empty_step, empty_end}
use Rattle.ordering.specs.Steps.{Mapped}
use Rattle.downstream.specs.Downstream.{readers, directs}
use Rattle.downstream.proofs.Spreading.{readers_lt}
use Rattle.downstream.proofs.Tables.{directs_at, directs_long, direct_member}
use Rattle.keeping.specs.Keeping.{Differ}

-- ---- the table by its members

pub readers_member : (reads : ℕ → ℕ) (n : ℕ) {table : List ℕ} → table ≡ directs reads n → (f j : ℕ) → f < 64
    → member (at table f) j ≡ (ltb j n && member (reads j) f)
readers_member reads n e f j l = rw e (ap (λ x. member x j) (directs_at reads n f l) ∙ direct_member reads n f j l)

readers_directs : (reads : ℕ → ℕ) (n : ℕ) (table : List ℕ) → n ≤ 64 → length table ≡ 64 → ((f : ℕ) → f < 64 → at table f < 2 ^ 64)
    → ((f j : ℕ) → f < 64 → j < 64 → member (at table f) j ≡ (ltb j n && member (reads j) f)) → table ≡ directs reads n
readers_directs reads n table few long fits each =
    ext_get_or 0 table (directs reads n) (long ∙ sym (directs_long reads n))
    (λ f l.
    let low : f < 64 = rw long at l in
    ext_member 64 (at table f) (readers reads n (only f)) (fits f low) (readers_lt reads n (only f) few)
    (λ j k. each f j low k ∙ sym (direct_member reads n f j low))
    ∙ sym (directs_at reads n f low))

-- ---- one field

-- c is struck out where it reads no more, and entered where it reads anew
pub renewed : (shown : List ℕ) (new : ℕ) {n c old gone come : ℕ} {table between after : List ℕ} → n ≤ 64 → c < n → length shown ≡ 64
    → table ≡ directs (at shown) n → old ≡ at shown c → gone ≡ minus old new → Mapped (λ m. without m c) gone table between
    → come ≡ minus new old → Mapped (λ m. with m c) come between after → length after ≡ 64 → after ≡ directs (at (put shown c new)) n
renewed shown new {n} {c} {old} {gone} {come} {table} {between} {after} few low long t o eg x ec y full =
    readers_directs (at (put shown c new)) n after few full (λ f l. rw (is f l) (fits f l (member old f) (member new f)))
    (λ f j l k. ap (λ m. member m j) (is f l) ∙ go f j l k (ℕ_discrete j c))
  where
    c64 : c < 64
    c64 = omega arith

    -- an entry of the table, by whether the old and the new reads have its field: when c is struck out, and then
    struck : ℕ → Bool → Bool → ℕ
    struck f a b = cond (a && not b) (without (at table f) c) (at table f)

    entry : ℕ → Bool → Bool → ℕ
    entry f a b = cond (b && not a) (with (struck f a b) c) (struck f a b)

    is : (f : ℕ) → f < 64 → at after f ≡ entry f (member old f) (member new f)
    is f l =
        y.each f l
        ∙ rw (ec, member_filter (λ j. not (member old j)) new f l, x.each f l, eg, member_filter (λ j. not (member new j)) old f l) refl

    table_fits : (f : ℕ) → f < 64 → at table f < 2 ^ 64
    table_fits f l = rw (t, directs_at (at shown) n f l) (readers_lt (at shown) n (only f) few)

    fits : (f : ℕ) → f < 64 → (a b : Bool) → entry f a b < 2 ^ 64
    fits f l true true = table_fits f l
    fits f l true false = without_lt (at table f) c
    fits f l false true = with_lt (at table f) c
    fits f l false false = table_fits f l

    -- another reader stays as it was
    other : (f j : ℕ) → j < 64 → j ≢ c → (a b : Bool) → member (entry f a b) j ≡ member (at table f) j
    other f j k d true true = refl
    other f j k d true false = member_without_other (at table f) c j k d
    other f j k d false true = member_with_other (at table f) c j k d
    other f j k d false false = refl

    was : (f : ℕ) → f < 64 → member (at table f) c ≡ member old f
    was f l = readers_member (at shown) n t f c l ∙ rw (lt-ltb c n low, o)

    itself : (f : ℕ) → f < 64 → (a b : Bool) → member old f ≡ a → member (entry f a b) c ≡ b
    itself f l true true e = was f l ∙ e
    itself f l true false e = member_without_same (at table f) c
    itself f l false true e = member_with_same (at table f) c c64
    itself f l false false e = was f l ∙ e

    go : (f j : ℕ) → f < 64 → j < 64 → Dec (j ≡ c) → member (entry f (member old f) (member new f)) j ≡ (ltb j n && member (at (put shown c new) j) f)
    go f j l k (yes d) =
        rw (d, lt-ltb c n low, get_or-set_same shown c new 0 (rw long c64)) (itself f l (member old f) (member new f) refl)
    go f j l k (no d) =
        other f j k d (member old f) (member new f) ∙ readers_member (at shown) n t f j l
        ∙ ap (λ m. ltb j n && member m f) (sym (get_or-set_other shown c j new 0 d))

-- ---- all that change

-- the new reads are shown of the fields of a set, but for the rest, and the readers are by what is shown
pub record Rereading (reads : List ℕ) (n changed : ℕ) (before shown readers : List ℕ) (rest : ℕ) : Type 0 where
  pub long : length shown ≡ 64
  pub told : readers ≡ directs (at shown) n
  pub loop : Emptying changed (λ b j. at shown j ≡ cond b (at reads j) (at before j)) rest

pub rereading_start : {reads : List ℕ} {n changed : ℕ} {before readers : List ℕ} → length before ≡ 64 → readers ≡ directs (at before) n
    → Rereading reads n changed before before readers changed
rereading_start long t = record { long = long; told = t; loop = empty_start (λ j l. refl) }

pub rereading_step : {reads : List ℕ} {n changed : ℕ} {before shown shown' readers readers' : List ℕ} {rest rest' c : ℕ}
    → Rereading reads n changed before shown readers rest → First rest c → shown' ≡ put shown c (at reads c) → readers' ≡ directs (at shown') n
    → rest' ≡ without rest (lowest_of rest) → Rereading reads n changed before shown' readers' rest'
rereading_step {reads} {shown = shown} {c = c} p U e t q = record {
  long = rw e (length-set shown c (at reads c) ∙ p.long);
  told = t;
  loop = rw e
      (empty_step p.loop U q (λ b j l d h. get_or-set_other shown c j (at reads c) 0 d ∙ h)
      (get_or-set_same shown c (at reads c) 0 (rw p.long U.field)));
}

module _ {reads : List ℕ} {n changed : ℕ} {before shown readers : List ℕ} {rest : ℕ} (p : Rereading reads n changed before shown readers rest)
    (d : Differ changed before reads) (full : length reads ≡ 64) (z : rest ≡ 0) where
  pub rereading_shown : shown ≡ reads
  rereading_shown =
      ext_get_or 0 shown reads (p.long ∙ sym full)
      (λ j l. let low : j < 64 = rw p.long at l in empty_end p.loop z j low ∙ go j low (member changed j) refl)
    where
      go : (j : ℕ) → j < 64 → (b : Bool) → member changed j ≡ b → cond b (at reads j) (at before j) ≡ at reads j
      go j l true e = refl
      go j l false e = d.same j l e

  pub rereading_told : readers ≡ directs (at reads) n
  rereading_told = p.told ∙ ap (λ (x : List ℕ). directs (at x) n) rereading_shown
