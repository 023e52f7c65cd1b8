-- What `fill` keeps from one round of its loop to the next, and what it leaves. `Gather`: the table is right on the known fields, which are closed
-- under other outputs; every closed set that has the fields known at the start and those asked for has all that are known; the count is how many
-- more are known. A round adds one field, known before or worked out (`FieldFilled`); no field of lower rank needs it, so it is still unknown when
-- it is stored (`still_unknown`). `Begun` is what the loop of `strengths` keeps; with it and `fill` each field is stored and counted once.
use Prim.Native.Nat.{ℕ, ◌+◌, ◌-◌, ◌<◌, max}
use mathlib.Core.Path.{◌≡◌, refl, sym, ap, ◌∙◌}
use mathlib.Core.Bool.{Bool, true, false, not, ◌&&◌, ◌||◌, cond, false≢true, or-true}
use mathlib.Core.List.{List, ◌++◌}
use native.Mathlib.Decide.{ℕ_discrete, dec_lt}
use native.Mathlib.Omega.{arith}
use borrow.Author.Tests.{ltb-true, lt-ltb, le-ltb}
use lib.Dec.{ltb}
use lib.ListN.{length, set, drop, length-set, length-append, length-drop}
use lib.Seq.{get_or-set_same, get_or-set_other, ext_get_or}
use Rattle.fieldset.specs.Tables.{at, tabulate}
use Rattle.fieldset.specs.Fields.{member, set_of, with, without, below, lowest_of, First, minus, size, Within}
use Rattle.fieldset.proofs.Tests.{and_left}
use Rattle.fieldset.proofs.Numbers.{clash}
use Rattle.fieldset.proofs.Tables.{length_tabulate, get_d_tabulated}
use Rattle.fieldset.proofs.Fields.{member_filter, member_setOf_lt, member_empty, member_below, member_with_same, member_with_other, with_of, size_empty, size_below, size_mono, size_with}
use Rattle.fieldset.proofs.Emptying.{Emptying, empty_start, empty_step, empty_end, taken_in}
use Rattle.strength.specs.Strength.{greatest, strength}
use Rattle.strength.specs.Filling.{Acyclic, Strengths, Closed, Fillable, Filled, Topped}
use Rattle.strength.proofs.Maxima.{greatest_cong, Topping, top_start, top_step, top_end}
use Rattle.strength.proofs.Depth.{strength_alone, strength_stable, strength_fixed}

-- a field that is not in the greater set is not in the smaller
outside : (a b u : ℕ) → Within a b → u < 64 → member b u ≡ false → member a u ≡ false
outside a b u w l e = go (member a u) refl
  where
    go : (x : Bool) → member a u ≡ x → x ≡ false
    go true f = absurd (clash (w u l f) e)
    go false f = refl

-- the strength of v is stored, where what it depends on is known
module _ {levels others table : List ℕ} {r v : ℕ} (S : Strengths levels others 64 r table) (h : v < 64) where
  stored : (s : ℕ) → Within (at others v) r → s ≡ strength (at levels) (at others) 64 v → Strengths levels others 64 (with r v) (set table v s)
  stored s w e = record {
    full = length-set table v s ∙ S.full;
    right = λ u l i. right u l i (ℕ_discrete u v);
    closed = λ x u hx hu i f. with_of r v u hu (closed x u hx hu i f (ℕ_discrete x v));
  }
    where
      right : (u : ℕ) → u < 64 → member (with r v) u ≡ true → Dec (u ≡ v) → at (set table v s) u ≡ strength (at levels) (at others) 64 u
      right u l i (yes d) = rw d (get_or-set_same table v s 0 (omega (arith, S.full)) ∙ e)
      right u l i (no d) = get_or-set_other table v u s 0 d ∙ S.right u l (sym (member_with_other r v u l d) ∙ i)

      closed : (x u : ℕ) → x < 64 → u < 64 → member (with r v) x ≡ true → member (at others x) u ≡ true → Dec (x ≡ v) → member r u ≡ true
      closed x u hx hu i f (yes d) = w u hu (rw d at f)
      closed x u hx hu i f (no d) = S.closed x u hx hu (sym (member_with_other r v x hx d) ∙ i) f

  stored_kept : (s u : ℕ) → u < 64 → member (with r v) u ≡ false → at (set table v s) u ≡ at table u
  stored_kept s u l i = go (ℕ_discrete u v)
    where
      go : Dec (u ≡ v) → at (set table v s) u ≡ at table u
      go (yes d) = absurd (clash (rw d (member_with_same r v h)) i)
      go (no d) = get_or-set_other table v u s 0 d

-- one field is filled in
pub record FieldFilled (levels others : List ℕ) (known v r count : ℕ) (before after : List ℕ) : Type 0 where
  pub strengths : Strengths levels others 64 r after
  pub more : Within known r
  pub has : member r v ≡ true
  pub inside : (m : ℕ) → Closed others m → Within known m → member m v ≡ true → Within r m
  pub kept : (u : ℕ) → u < 64 → member r u ≡ false → at after u ≡ at before u
  pub counted : size known + count ≡ size r

-- of the fields of a set, those of `rest` are left; k is what is known by now, top the greatest strength so far, and count how many strengths were
-- worked out
pub record Gather (levels others : List ℕ) (known set : ℕ) (before table : List ℕ) (rest k top count : ℕ) : Type 0 where
  pub strengths : Strengths levels others 64 k table
  pub more : Within known k
  pub inside : (m : ℕ) → Closed others m → Within known m → Within set m → Within k m
  pub kept : (u : ℕ) → u < 64 → member k u ≡ false → at table u ≡ at before u
  pub counted : size known + count ≡ size k
  pub loop : Emptying set (λ d u. d ≡ true → member k u ≡ true) rest
  pub topping : Topping (strength (at levels) (at others) 64) set 0 top rest

module _ {levels others : List ℕ} {known set : ℕ} {before : List ℕ} where
  pub start : Strengths levels others 64 known before → Gather levels others known set before before set known 0 0
  start S = record {
    strengths = S;
    more = λ u l f. f;
    inside = λ m c w p. w;
    kept = λ u l f. refl;
    counted = omega arith;
    loop = empty_start (λ u l e. absurd (false≢true e));
    topping = top_start;
  }

  pub finish : {table : List ℕ} {rest k top count : ℕ} → Gather levels others known set before table rest k top count → rest ≡ 0
      → Filled levels others known set top k count before table
  finish G z = record {
    is_greatest = omega (arith, top_end G.topping z);
    strengths = G.strengths;
    more = G.more;
    has = empty_end G.loop z;
    inside = G.inside;
    kept = G.kept;
    counted = G.counted;
  }

  -- the lowest field that is left is filled in
  pub step : {table table' : List ℕ} {rest rest' k top count u r top' more count' : ℕ} → Gather levels others known set before table rest k top count
      → First rest u → FieldFilled levels others k u r more table table' → count' ≡ count + more → top' ≡ max top (at table' u)
      → rest' ≡ without rest (lowest_of rest) → Gather levels others known set before table' rest' r top' count'
  step {k = k} {top = top} {u = u} {r = r} G U F c e q = record {
    strengths = F.strengths;
    more = λ j h f. F.more j h (G.more j h f);
    inside = λ m c w p. F.inside m c (G.inside m c w p) (p u U.field (taken_in G.loop U));
    kept = λ j h f. F.kept j h f ∙ G.kept j h (outside k r j F.more h f);
    counted = omega (arith, G.counted, F.counted);
    loop = empty_step G.loop U q (λ d j l n h i. F.more j l (h i)) (λ i. F.has);
    topping = top_step G.topping U (e ∙ ap (max top) (F.strengths.right u U.field F.has)) q;
  }

-- v is known already
pub one_known : {levels others : List ℕ} {k v : ℕ} {table : List ℕ} → Strengths levels others 64 k table → member k v ≡ true
    → FieldFilled levels others k v k 0 table table
one_known S e = record {
  strengths = S;
  more = λ u l f. f;
  has = e;
  inside = λ m c w h. w;
  kept = λ u l f. refl;
  counted = omega arith;
}

module _ {levels others : List ℕ} {known wanted depth : ℕ} {before : List ℕ} (R : Fillable levels others known before wanted depth)
    {table : List ℕ} {rest k top count : ℕ} (G : Gather levels others known wanted before table rest k top count) {v : ℕ} (U : First rest v) where
  -- the rank of a field that is left is below the depth
  pub left_deep : R.rank v < depth
  left_deep = R.deep v U.field (taken_in G.loop U)

  -- what the call for the other outputs of its setter asks
  pub fill_asks : Fillable levels others k table (at others v) (depth - 1)
  fill_asks = record {
    few = omega (arith, R.few);
    rank = R.rank;
    falls = R.falls;
    deep = λ u l e. omega (arith, left_deep, R.falls v u U.field l e);
    strengths = G.strengths;
  }

  -- they are known
  pub fill_known : Within (at others v) k → Filled levels others k (at others v) (greatest (member (at others v)) (at table) 64) k 0 table table
  fill_known w = record {
    is_greatest =
        greatest_cong (member (at others v)) (member (at others v)) (at table) (strength (at levels) (at others) 64) 64 (λ u l. refl)
        (λ u l e. G.strengths.right u l (w u l e));
    strengths = G.strengths;
    more = λ u l e. e;
    has = w;
    inside = λ m c h p. h;
    kept = λ u l e. refl;
    counted = omega arith;
  }

  -- the fields that v does not depend on are left alone, v among them: those that are known, and those of lower rank, have all that they depend on
  abbrev lower : ℕ → Bool
  lower u = member k u || ltb (R.rank u) (R.rank v)

  lower_closed : Closed others (set_of lower 64)
  lower_closed w u hw hu i f = member_setOf_lt lower 64 u hu ∙ go (member k w) refl
    where
      go : (x : Bool) → member k w ≡ x → lower u ≡ true
      go true e = ap (λ (b : Bool). b || ltb (R.rank u) (R.rank v)) (G.strengths.closed w u hw hu e f)
      go false e =
          let is_lower : lower w ≡ true = sym (member_setOf_lt lower 64 w hw) ∙ i in
          let low : R.rank w < R.rank v = ltb-true (R.rank w) (R.rank v) (rw e at is_lower) in
          ap (λ (b : Bool). member k u || b) (lt-ltb (R.rank u) (R.rank v) (omega (arith, R.falls w u hw hu f))) ∙ or-true (member k u)

  -- so v is still not known after the other outputs of its setter are filled in
  still_unknown : {t r more : ℕ} {table' : List ℕ} → Filled levels others k (at others v) t r more table table' → member k v ≡ false → member r v ≡ false
  still_unknown {r = r} F e = go (member r v) refl
    where
      go : (x : Bool) → member r v ≡ x → x ≡ false
      go false i = refl
      go true i =
          absurd (clash
          (F.inside (set_of lower 64) lower_closed
          (λ u l f. member_setOf_lt lower 64 u l ∙ ap (λ (b : Bool). b || ltb (R.rank u) (R.rank v)) f)
          (λ u l f. member_setOf_lt lower 64 u l ∙ ap (λ (b : Bool). member k u || b) (lt-ltb (R.rank u) (R.rank v) (R.falls v u U.field l f)) ∙ or-true (member k u))
          v U.field i)
          (member_setOf_lt lower 64 v U.field ∙ ap (λ (b : Bool). b || ltb (R.rank v) (R.rank v)) e ∙ le-ltb (R.rank v) (R.rank v) (omega arith)))

  -- the strength of v is stored
  pub one_filled : {t r more s : ℕ} {table' : List ℕ} → member k v ≡ false → Filled levels others k (at others v) t r more table table' → s ≡ max (at levels v) t
      → FieldFilled levels others k v (with r v) (more + 1) table (set table' v s)
  one_filled {t} {r} {more} {s} {table'} new F e = record {
    strengths = stored F.strengths U.field s F.has
        (e ∙ ap (max (at levels v)) F.is_greatest
        ∙ sym (strength_fixed (at levels) (at others) R.rank R.falls 64 v U.field (omega (arith, left_deep, R.few))));
    more = λ u l i. with_of r v u l (F.more u l i);
    has = member_with_same r v U.field;
    inside = λ m c w h u l i. in_set m c w h u l i (ℕ_discrete u v);
    kept = λ u l i. stored_kept F.strengths U.field s u l i ∙ F.kept u l (outside r (with r v) u (λ j q f. with_of r v j q f) l i);
    counted = omega (arith, F.counted, size_with r v U.field (still_unknown F new));
  }
    where
      in_set : (m : ℕ) → Closed others m → Within k m → member m v ≡ true → (u : ℕ) → u < 64 → member (with r v) u ≡ true → Dec (u ≡ v) → member m u ≡ true
      in_set m c w h u l i (yes d) = rw d h
      in_set m c w h u l i (no d) = F.inside m c w (λ j q f. c v j U.field q h f) u l (sym (member_with_other r v u l d) ∙ i)

-- ---- `greatest` and `strengths`: none is known

below_lt : (n u : ℕ) → u < 64 → member (below n) u ≡ true → u < n
below_lt n u l e = ltb-true u n (sym (member_below n u l) ∙ e)

lt_below : (n u : ℕ) → u < 64 → u < n → member (below n) u ≡ true
lt_below n u l h = member_below n u l ∙ lt-ltb u n h

pub none_below : (n : ℕ) → Within 0 (below n)
none_below n u l e = absurd (clash e (member_empty u))

pub none_known : (levels others table : List ℕ) → length table ≡ 64 → Strengths levels others 64 0 table
none_known levels others table h = record {
  full = h;
  right = λ u l e. absurd (clash e (member_empty u));
  closed = λ v u hv hu e f. absurd (clash e (member_empty v));
}

module _ {others : List ℕ} {n : ℕ} (A : Acyclic others n) where
  -- at depth n as at depth 64
  same_depth : (levels : List ℕ) (u : ℕ) → u < n → strength (at levels) (at others) 64 u ≡ strength (at levels) (at others) n u
  same_depth levels u l =
      strength_stable (at levels) (at others) A.rank A.ranked.falls 64 n u (omega (arith, A.few))
      (omega (arith, A.few, A.ranked.small u l)) (A.ranked.small u l)

  below_closed : Closed others (below n)
  below_closed v u hv hu e f = lt_below n u hu (A.inside v u (below_lt n v hv e) hu f)

module _ {levels others : List ℕ} {n : ℕ} (A : Acyclic others n) where
  module _ {known set : ℕ} (K : Within known (below n)) (W : Within set (below n)) {before : List ℕ} where
    pub fill_below : Strengths levels others 64 known before → Fillable levels others known before set n
    fill_below S = record {
      few = A.few;
      rank = A.rank;
      falls = A.ranked.falls;
      deep = λ u l e. A.ranked.small u (below_lt n u l (W u l e));
      strengths = S;
    }

    module _ {top r count : ℕ} {table : List ℕ} (F : Filled levels others known set top r count before table) where
      -- only fields below n are filled in
      filled_below : Within r (below n)
      filled_below = F.inside (below n) (below_closed A) K W

      pub topped : known ≡ 0 → Topped levels others n set top r count table
      topped none = record {
        is_greatest =
            F.is_greatest
            ∙ greatest_cong (member set) (member set) (strength (at levels) (at others) 64) (strength (at levels) (at others) n) 64 (λ u l. refl)
            (λ u l e. same_depth A levels u (below_lt n u l (W u l e)));
        strengths = record {
          full = F.strengths.full;
          right = λ u l e. F.strengths.right u l e ∙ same_depth A levels u (below_lt n u l (filled_below u l e));
          closed = F.strengths.closed;
        };
        has = F.has;
        counted = omega (arith, F.counted, ap size none, size_empty);
      }

-- ---- `strengths`: where a setter has no other output the strength is its level; the rest is filled in

-- of the first v fields some are known; the count is how many
pub record Begun (levels others before table : List ℕ) (v known count : ℕ) : Type 0 where
  pub strengths : Strengths levels others 64 known table
  pub seen : Within known (below v)
  pub kept : (u : ℕ) → u < 64 → member known u ≡ false → at table u ≡ at before u
  pub counted : count ≡ size known

module _ {levels others before : List ℕ} where
  pub none_begun : length before ≡ 64 → Begun levels others before before 0 0 0
  none_begun full = record { strengths = none_known levels others before full; seen = none_below 0; kept = λ u l e. refl; counted = sym size_empty }

  module _ {table : List ℕ} {v known count : ℕ} (B : Begun levels others before table v known count) where
    -- one field more is looked at
    seen_more : Within known (below (v + 1))
    seen_more u l e = lt_below (v + 1) u l (omega (arith, below_lt v u l (B.seen u l e)))

    pub next_left : Begun levels others before table (v + 1) known count
    next_left = record { strengths = B.strengths; seen = seen_more; kept = B.kept; counted = B.counted }

    -- its setter has no other output
    pub next_alone : v < 64 → at others v ≡ 0 → Begun levels others before (set table v (at levels v)) (v + 1) (with known v) (count + 1)
    next_alone h alone = record {
      strengths = stored B.strengths h (at levels v) (λ u l e. absurd (clash (rw alone at e) (member_empty u)))
          (sym (strength_alone (at levels) (at others) 64 v (omega arith) alone));
      seen = λ u l e. seen u l e (ℕ_discrete u v);
      kept = λ u l e. stored_kept B.strengths h (at levels v) u l e ∙ B.kept u l (outside known (with known v) u (λ j q f. with_of known v j q f) l e);
      counted = omega (arith, B.counted, size_with known v h (outside known (below v) v B.seen h (member_below v v h ∙ le-ltb v v (omega arith))));
    }
      where
        seen : (u : ℕ) → u < 64 → member (with known v) u ≡ true → Dec (u ≡ v) → member (below (v + 1)) u ≡ true
        seen u l e (yes d) = lt_below (v + 1) u l (omega arith)
        seen u l e (no d) = seen_more u l (sym (member_with_other known v u l d) ∙ e)

module _ {levels others : List ℕ} {n : ℕ} (A : Acyclic others n) {before begun : List ℕ} {known count : ℕ} (B : Begun levels others before begun n known count)
    {rest : ℕ} (q : rest ≡ minus (below n) known) where
  -- the others
  rest_is : (u : ℕ) → u < 64 → member rest u ≡ (member (below n) u && not (member known u))
  rest_is u l = ap (λ (m : ℕ). member m u) q ∙ member_filter (λ j. not (member known j)) (below n) u l

  rest_below : Within rest (below n)
  rest_below u l e = and_left (member (below n) u) (not (member known u)) (sym (rest_is u l) ∙ e)

  pub rest_asks : Fillable levels others known begun rest n
  rest_asks = fill_below A B.seen rest_below B.strengths

  module _ {top r more : ℕ} {table : List ℕ} (F : Filled levels others known rest top r more begun table) where
    inside : Within r (below n)
    inside = filled_below A B.seen rest_below F

    all : Within (below n) r
    all u l e = go (member known u) refl
      where
        go : (b : Bool) → member known u ≡ b → member r u ≡ true
        go true k = F.more u l k
        go false k = F.has u l (rest_is u l ∙ rw (e, k))

    -- each of the n fields was counted once
    pub all_counted : count + more ≡ n
    all_counted = omega (arith, B.counted, F.counted, size_mono r (below n) inside, size_mono (below n) r all, size_below n A.few)

    pub listed : length before ≡ 64 → table ≡ tabulate (strength (at levels) (at others) n) n ++ drop n before
    listed full =
        ext_get_or 0 table (tabulate f n ++ drop n before)
        (F.strengths.full ∙ simp (length-append, length_tabulate, length-drop) (omega (arith, A.few)))
        (λ i l. each i (omega (arith, F.strengths.full)) (dec_lt i n) ∙ sym (get_d_tabulated f n before i))
      where
        f : ℕ → ℕ
        f = strength (at levels) (at others) n

        each : (i : ℕ) → i < 64 → Dec (i < n) → at table i ≡ cond (ltb i n) (f i) (at before i)
        each i l (yes h) = F.strengths.right i l (all i l (lt_below n i l h)) ∙ same_depth A levels i h ∙ rw (lt-ltb i n h)
        each i l (no h) =
            let none : member (below n) i ≡ false = member_below n i l ∙ le-ltb i n (omega arith) in
            F.kept i l (outside r (below n) i inside l none) ∙ B.kept i l (outside known (below n) i B.seen l none) ∙ rw (le-ltb i n (omega arith))
