-- Laws of the tables of downstream sets and of direct readers: their entries, that they go by the reads alone, and that they are empty where nothing
-- is read.
use Prim.Native.Nat.{ℕ, zero, suc, ◌^◌, ◌≤◌, ◌<◌}
use mathlib.Core.Path.{◌≡◌, refl, sym, ap, ◌∙◌}
use mathlib.Core.Bool.{Bool, true, false, ◌&&◌}
use borrow.Author.Tests.{lt-ltb, ltb-true}
use lib.Dec.{ltb}
use lib.ListN.{length, replicate, length-replicate, get_or-replicate}
use lib.Seq.{ext_get_or}
use Rattle.fieldset.specs.Tables.{at, tabulate}
use Rattle.fieldset.specs.Fields.{member, only, meets}
use Rattle.fieldset.proofs.Tests.{and_left, and_right, and_both}
use Rattle.fieldset.proofs.Numbers.{clash, any_cong}
use Rattle.fieldset.proofs.Tables.{length_tabulate, get_d_tabulate}
use Rattle.fieldset.proofs.Fields.{member_empty, empty_of_none, set_of_cong}
use Rattle.ordering.proofs.Sets.{test_ext}
use Rattle.ordering.proofs.Plan.{Same}
use Rattle.downstream.specs.Downstream.{readers, spreading, spread, downstream, downstreams, directs}
use Rattle.downstream.proofs.Spreading.{readers_lt, readers_of_one, reader_of_one, downstream_lt}
use Rattle.downstream.proofs.Walks.{downstream_first}

-- ---- entries

module _ (reads : ℕ → ℕ) (n : ℕ) where
  pub downstreams_at : (f : ℕ) → f < 64 → at (downstreams reads n) f ≡ downstream reads n f
  unfolding downstreams
  downstreams_at f l = get_d_tabulate (downstream reads n) 64 f 0 l

  pub downstreams_long : length (downstreams reads n) ≡ 64
  unfolding downstreams
  downstreams_long = length_tabulate (downstream reads n) 64

  pub directs_at : (f : ℕ) → f < 64 → at (directs reads n) f ≡ readers reads n (only f)
  unfolding directs
  directs_at f l = get_d_tabulate (λ f. readers reads n (only f)) 64 f 0 l

  pub directs_long : length (directs reads n) ≡ 64
  unfolding directs
  directs_long = length_tabulate (λ f. readers reads n (only f)) 64

  -- who reads f
  pub direct_member : (f j : ℕ) → f < 64 → member (readers reads n (only f)) j ≡ (ltb j n && member (reads j) f)
  direct_member f j l =
      test_ext (member (readers reads n (only f)) j) (ltb j n && member (reads j) f)
      (λ e. let (k, r) = readers_of_one reads n f j e in and_both (ltb j n) (member (reads j) f) (lt-ltb j n k) r)
      (λ e. reader_of_one reads n f j l (ltb-true j n (and_left (ltb j n) (member (reads j) f) e)) (and_right (ltb j n) (member (reads j) f) e))

-- ---- equal reads

module _ (r s : ℕ → ℕ) (n : ℕ) (same : Same r s n) where
  readers_ext : (set : ℕ) → readers r n set ≡ readers s n set
  unfolding readers meets
  readers_ext set = set_of_cong _ _ n (λ g l. any_cong _ _ 64 (λ j k. ap (λ x. x && member set j) (same g j l k)))

  spreading_ext : (k set : ℕ) → spreading r n k set ≡ spreading s n k set
  unfolding spreading
  spreading_ext zero set = refl
  spreading_ext (suc k) set = rw (spreading_ext k set, readers_ext (spreading s n k set))

  pub spread_ext : (set : ℕ) → spread r n set ≡ spread s n set
  unfolding spread
  spread_ext set = spreading_ext n set

-- ---- nothing is read

-- a table of 64 empty sets
zeros : (f : ℕ → ℕ) → ((i : ℕ) → f i < 2 ^ 64) → ((i g : ℕ) → member (f i) g ≡ true → ⊥) → tabulate f 64 ≡ replicate 64 0
zeros f fits none =
    ext_get_or 0 (tabulate f 64) (replicate 64 0) (length_tabulate f 64 ∙ sym (length-replicate {A = ℕ} 64 0))
    (λ i l.
    let low : i < 64 = rw (length_tabulate f 64) at l in
    get_d_tabulate f 64 i 0 low ∙ empty_of_none 64 (f i) (fits i) (λ g k. go i g (member (f i) g) refl) ∙ sym (get_or-replicate {A = ℕ} 64 i 0 0 low))
  where
    go : (i g : ℕ) (b : Bool) → member (f i) g ≡ b → b ≡ false
    go i g true e = absurd (none i g e)
    go i g false e = refl

module _ (reads : ℕ → ℕ) (n : ℕ) (few : n ≤ 64) (none : (f : ℕ) → f < n → reads f ≡ 0) where
  reads_nothing : (g f : ℕ) → g < n → member (reads g) f ≡ true → ⊥
  reads_nothing g f l e = clash (rw (none g l) at e) (member_empty f)

  pub nothing_downstream : downstreams reads n ≡ replicate 64 0
  unfolding downstreams
  nothing_downstream =
      zeros (downstream reads n) (downstream_lt reads n few)
      (λ f g e. let (h, l, r, c) = downstream_first reads n few f g e in reads_nothing h f l r)

  pub nothing_direct : directs reads n ≡ replicate 64 0
  unfolding directs
  nothing_direct =
      zeros (λ f. readers reads n (only f)) (λ f. readers_lt reads n (only f) few)
      (λ f g e. let (l, r) = readers_of_one reads n f g e in reads_nothing g f l r)
