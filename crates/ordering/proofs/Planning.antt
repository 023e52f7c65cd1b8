-- Laws of the plan's loop: what is left, what can be listed, and what stands in the buffer. The lowest field that can be listed is the definition's
-- next (`next_ready`); after it, of the fields that are left only its readers can have become ready (`planning_step`).
use Prim.Native.Nat.{ℕ, zero, suc, ◌+◌, ◌^◌, ◌≤◌, ◌<◌}
use mathlib.Core.Path.{◌≡◌, refl, sym, ap, ap₂, ◌∙◌}
use mathlib.Core.Bool.{Bool, true, false, not, ◌&&◌, ◌||◌, and-true, and-false, and_assoc, and_comm, or-false}
use mathlib.Core.List.{List, [], ◌∷◌, ◌++◌, append-nil}
use native.Mathlib.Decide.{ℕ_discrete}
use native.Mathlib.Omega.{arith}
use borrow.Author.Tests.{lt-ltb, ltb-true, not-true}
use lib.Dec.{eqb, ltb}
use lib.ListN.{length, set, drop, length-append}
use lib.Seq.{append_snoc}
use Rattle.fieldset.specs.Numbers.{count}
use Rattle.fieldset.specs.Tables.{at}
use Rattle.fieldset.specs.Fields.{member, with, without, union, below, lowest_of, First, meets, within}
use Rattle.fieldset.proofs.Numbers.{clash, count_pos, count_le, lowest_none, lowest_unique, any_cong}
use Rattle.fieldset.proofs.Tables.{store_next}
use Rattle.fieldset.proofs.Fields.{member_empty, member_lt, member_with, member_without, member_without_other, member_union, member_below, below_lt, without_lt, without_falls, without_cases, without_of, member_filter, lowest_of_before}
use Rattle.ordering.specs.Order.{next, following, order}
use Rattle.ordering.specs.Walks.{Inside}
use Rattle.ordering.specs.Steps.{Readers, ready_of}
use Rattle.fieldset.proofs.Tests.{and_left, and_right, not_or}
use Rattle.ordering.proofs.Sets.{test_ext, meets_none, meets_not, meets_some, meets_without}
use Rattle.ordering.proofs.Plan.{able, unlisted?, unlisted_step, following_next, following_none}

-- ---- the next field

-- those fields of a set that read nothing of what is left, one by one
abbrev Ready : (ℕ → ℕ) → ℕ → ℕ → ℕ → Type 0
Ready reads set left ready = (g : ℕ) → g < 64 → member ready g ≡ (member set g && not (meets (reads g) left))

ready_is : (reads : ℕ → ℕ) (set left : ℕ) {ready : ℕ} → ready ≡ ready_of reads set left → Ready reads set left ready
ready_is reads set left e g l = rw e (member_filter (λ f. not (meets (reads f) left)) set g l)

-- of n fields, those that are listed and those that are left
abbrev Apart : ℕ → ℕ → ℕ → Type 0
Apart n listed left = (f : ℕ) → f < n → not (member listed f) ≡ member left f

module _ (reads : ℕ → ℕ) (n listed left ready : ℕ) (a : Inside reads n)
    (low : (f : ℕ) → member left f ≡ true → f < n) (apart : Apart n listed left) (r : Ready reads left left ready) where
  able_ready : (g : ℕ) → g < n → able reads listed g ≡ member ready g
  unfolding within meets
  able_ready g l =
      ap₂ ◌&&◌ (apart g l) (ap not (any_cong _ _ 64 (λ j k. go j k (member (reads g) j) refl))) ∙ sym (r g (omega (arith, a.few)))
    where
      go : (j : ℕ) → j < 64 → (b : Bool) → member (reads g) j ≡ b → (b && not (member listed j)) ≡ (b && member left j)
      go j k true e = apart j (a.inside g j l k e)
      go j k false e = refl

  ready_left : (g : ℕ) → g < 64 → member ready g ≡ true → (member left g ≡ true) × (meets (reads g) left ≡ false)
  ready_left g k e =
      let both = sym (r g k) ∙ e in
      (and_left (member left g) (not (meets (reads g) left)) both, not-true (meets (reads g) left) (and_right (member left g) (not (meets (reads g) left)) both))

  next_none : ready ≡ 0 → next reads n listed ≡ n
  unfolding next
  next_none z = lowest_none (able reads listed) n n (λ g l. able_ready g l ∙ rw (z) (member_empty g))

  next_ready : {f : ℕ} → First ready f → next reads n listed ≡ f
  unfolding next
  next_ready {f} U =
      let l = low f (ready_left f U.field U.is_in).0 in
      lowest_unique (able reads listed) n n f l (able_ready f l ∙ U.is_in)
      (λ i k. able_ready i (omega arith) ∙ lowest_of_before ready i (rw U.is_lowest at k))

-- ---- the loop

-- k fields are listed: they stand before the rest of the buffer, and what can be listed of what is left follows them in the plan
pub record Planning (reads : ℕ → ℕ) (n : ℕ) (before out : List ℕ) (left ready k : ℕ) : Type 0 where
  pub fits : left < 2 ^ 64
  pub low : (f : ℕ) → member left f ≡ true → f < n
  pub closed : (g : ℕ) → g < n → member left g ≡ false → meets (reads g) left ≡ false
  pub readies : Ready reads left left ready
  pub listed : ℕ
  pub apart : Apart n listed left
  pub prefix : List ℕ
  pub long : length prefix ≡ k
  pub out_is : out ≡ prefix ++ drop k before
  pub fuel : ℕ
  pub total : k + fuel ≡ n
  pub enough : count (unlisted? listed) n ≤ fuel
  pub plan : order reads n ≡ prefix ++ following reads n fuel listed

pub planning_start : {reads : ℕ → ℕ} {n : ℕ} {before : List ℕ} {left ready : ℕ} → n ≤ 64 → left ≡ below n → ready ≡ ready_of reads left left
    → Planning reads n before before left ready 0
unfolding order
planning_start {reads} {n} {before} {left} {ready} few e r = record {
  fits = rw e (below_lt n);
  low = λ f i. let m : member (below n) f ≡ true = rw e at i in ltb-true f n (sym (member_below n f (member_lt (below n) (below_lt n) f m)) ∙ m);
  closed = λ g l i. absurd (clash (rw e (member_below n g (omega arith) ∙ lt-ltb g n l)) i);
  readies = ready_is reads left left r;
  listed = 0;
  apart = λ f l. ap not (member_empty f) ∙ sym (rw e (member_below n f (omega arith) ∙ lt-ltb f n l));
  prefix = [];
  long = refl;
  out_is = refl;
  fuel = n;
  total = omega arith;
  enough = count_le (unlisted? 0) n;
  plan = refl;
}

pub planning_end : {reads : ℕ → ℕ} {n : ℕ} {before out : List ℕ} {left ready k : ℕ} → Inside reads n → Planning reads n before out left ready k → ready ≡ 0
    → (k ≡ length (order reads n)) × (out ≡ order reads n ++ drop k before)
planning_end {reads} {n} {before} {out} {left} {ready} {k} a p z =
    let none = next_none reads n p.listed left ready a p.low p.apart p.readies z in
    let e : order reads n ≡ p.prefix = p.plan ∙ rw (following_none reads n p.fuel p.listed none) (append-nil p.prefix) in
    (sym p.long ∙ ap length (sym e), p.out_is ∙ ap (λ xs. xs ++ drop k before) (sym e))

module _ {reads : ℕ → ℕ} {n : ℕ} {before out : List ℕ} {left ready k : ℕ} (a : Inside reads n)
    (p : Planning reads n before out left ready k) {f : ℕ} (U : First ready f) where
  in_left : member left f ≡ true
  in_left = (ready_left reads n p.listed left ready a p.low p.apart p.readies f U.field U.is_in).0

  reads_none : meets (reads f) left ≡ false
  reads_none = (ready_left reads n p.listed left ready a p.low p.apart p.readies f U.field U.is_in).1

  pub planning_low : f < n
  planning_low = p.low f in_left

  -- f is not listed yet
  f_unlisted : member p.listed f ≡ false
  f_unlisted = not-true (member p.listed f) (p.apart f planning_low ∙ in_left)

  -- there is room for f
  pub planning_room : k < n
  planning_room = omega (arith, p.total, p.enough, count_pos (unlisted? p.listed) n f planning_low (rw f_unlisted refl))

  pub planning_falls : without left f < left
  planning_falls = without_falls left p.fits f in_left

  -- f follows
  f_follows : (xs : List ℕ) (m m' : ℕ) → m ≡ suc m' → xs ++ following reads n m p.listed ≡ (xs ++ (f ∷ [])) ++ following reads n m' (with p.listed f)
  f_follows xs m m' e =
      rw (e, following_next reads n m' p.listed f (next_ready reads n p.listed left ready a p.low p.apart p.readies U) planning_low)
      (sym (append_snoc xs f (following reads n m' (with p.listed f))))

  -- what a field reads of what is left, without f
  still_none : (g : ℕ) → meets (reads g) left ≡ false → meets (reads g) (without left f) ≡ false
  still_none g e = meets_none (reads g) (without left f) (λ i l m. go i l m (member (without left f) i) refl)
    where
      go : (i : ℕ) → i < 64 → member (reads g) i ≡ true → (b : Bool) → member (without left f) i ≡ b → b ≡ false
      go i l m true e' = absurd (clash (without_cases left f i l e').0 (meets_not (reads g) left e i l m))
      go i l m false e' = refl

  module _ {readers : List ℕ} (rs : Readers reads n readers) (more : ℕ) (mr : Ready reads (at readers f) (without left f) more) where
    -- those that could be listed, but for f, and the readers of f that now can be
    ready_again : Ready reads (without left f) (without left f) (union (without ready f) more)
    ready_again g l = member_union (without ready f) more g l ∙ go (member (reads g) f) refl
      where
        left' : ℕ
        left' = without left f

        none : Bool
        none = not (meets (reads g) left')

        more_is : (b : Bool) → member (reads g) f ≡ b → member more g ≡ ((ltb g n && b) && none)
        more_is b m = mr g l ∙ rw (rs.each f g U.field l, m)

        -- what reads f could not be listed, and is left
        reads_f : member (reads g) f ≡ true → ltb g n ≡ member left' g
        reads_f m = test_ext _ _ (λ k. there (ltb-true g n k) (member left g) refl) (λ k. lt-ltb g n (p.low g (without_cases left f g l k).0))
          where
            there : g < n → (b : Bool) → member left g ≡ b → member left' g ≡ true
            there k true e = without_of left f g l e (λ d. clash in_left (meets_not (reads f) left reads_none f U.field (rw d at m)))
            there k false e = absurd (clash in_left (meets_not (reads g) left (p.closed g k e) f U.field m))

        go : (b : Bool) → member (reads g) f ≡ b → (member (without ready f) g || member more g) ≡ (member left' g && none)
        go true m =
            rw (member_without ready f g l, p.readies g l, meets_some (reads g) left f U.field m in_left, and-false (member left g))
            (more_is true m ∙ rw (and-true (ltb g n), reads_f m))
        go false m =
            rw (
              more_is false m,
              and-false (ltb g n),
              or-false (member (without ready f) g),
              member_without ready f g l,
              p.readies g l,
              ← meets_without (reads g) left f m,
              member_without left f g l,
            )
            (and_assoc (member left g) none (not (eqb g f))
            ∙ ap (λ b. member left g && b) (and_comm none (not (eqb g f)))
            ∙ sym (and_assoc (member left g) (not (eqb g f)) none))

    planning_next : length before ≡ 64 → Planning reads n before (set out k f) (without left f) (union (without ready f) more) (k + 1)
    planning_next long =
        let room = planning_room in
        let c = unlisted_step reads n a.few p.listed f planning_low f_unlisted in
        let (fuel', e) = less p.fuel refl (omega (arith, p.total)) in
        record {
          fits = without_lt left f;
          low = λ g i. p.low g (without_cases left f g (member_lt (without left f) (without_lt left f) g i) i).0;
          closed = λ g l i. still_none g (closed' g l i (ℕ_discrete g f));
          readies = ready_again;
          listed = with p.listed f;
          apart = λ g l.
              let k : g < 64 = omega (arith, a.few) in
              ap not (member_with p.listed f g k) ∙ not_or (member p.listed g) (eqb g f)
              ∙ ap (λ b. b && not (eqb g f)) (p.apart g l) ∙ sym (member_without left f g k);
          prefix = p.prefix ++ (f ∷ []);
          long = length-append p.prefix (f ∷ []) ∙ omega (arith, p.long);
          out_is = rw p.out_is (store_next before p.prefix k f p.long (omega (arith, long, a.few)));
          fuel = fuel';
          total = omega (arith, p.total, e);
          enough = omega (arith, p.enough, e, c);
          plan = p.plan ∙ f_follows p.prefix p.fuel fuel' e;
        }
      where
        less : (m : ℕ) → p.fuel ≡ m → 0 < m → (x : ℕ) × (p.fuel ≡ suc x)
        less zero e l = absurd (omega arith)
        less (suc x) e l = (x, e)

        closed' : (g : ℕ) → g < n → member (without left f) g ≡ false → Dec (g ≡ f) → meets (reads g) left ≡ false
        closed' g l i (yes d) = rw d reads_none
        closed' g l i (no d) = p.closed g l (sym (member_without_other left f g (omega (arith, a.few)) d) ∙ i)

  -- the same of the code's values
  pub planning_step : {readers out' : List ℕ} {left' ready' rest more : ℕ} → Readers reads n readers → more ≡ ready_of reads (at readers f) left'
      → length before ≡ 64
      → left' ≡ without left f → rest ≡ without ready (lowest_of ready) → ready' ≡ union rest more → out' ≡ set out k f
      → Planning reads n before out' left' ready' (k + 1)
  planning_step {readers} {more = more} rs mr long el er e eo =
      rw (eo, el, e, er, ← U.is_lowest) (planning_next rs more (ready_is reads (at readers f) (without left f) (rw el at mr)) long)
