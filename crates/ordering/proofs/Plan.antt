-- Laws of the plan: what it lists, in which order, and that it goes by the reads alone. All go along the list by `step`: a field comes next
-- (`Lists`), or nothing can (`Stops`).
use Prim.Native.Nat.{ℕ, zero, suc, ◌≤◌, ◌<◌}
use mathlib.Core.Path.{◌≡◌, refl, sym, ap, ◌∙◌, subst}
use mathlib.Core.Bool.{Bool, true, false, not, ◌&&◌, ◌||◌}
use mathlib.Core.List.{List, [], ◌∷◌}
use mathlib.Core.Logic.{◌⊎◌, inl, inr, ◌≢◌}
use native.Mathlib.Nat.{le_refl}
use native.Mathlib.Decide.{ℕ_discrete}
use native.Mathlib.Omega.{arith}
use borrow.Author.Tests.{lt-ltb, le-ltb, eq-eqb, eqb-true, not-true, not-false}
use lib.Dec.{eqb, ltb}
use lib.ListN.{length}
use Rattle.fieldset.specs.Numbers.{count}
use Rattle.fieldset.specs.Lists.{In, All, Distinct, place}
use Rattle.fieldset.specs.Fields.{member, with, within}
use Rattle.fieldset.proofs.Numbers.{clash, but, count_cong, count_but, count_all, Lowest, lowest_is, lowest_cong}
use Rattle.fieldset.proofs.Lists.{all_map, Whole, whole_in, place_here, place_later, place_in}
use Rattle.fieldset.proofs.Fields.{member_empty, member_with, member_with_same, member_with_other, within_member}
use Rattle.ordering.specs.Order.{next, following, order, has_loop}
use Rattle.fieldset.specs.Ranks.{Ranked}
use Rattle.fieldset.proofs.Tests.{and_left, and_right}
use Rattle.ordering.proofs.Sets.{within_cong}

-- ---- one step

-- f and the others, or none
abbrev first : Bool → ℕ → List ℕ → List ℕ
first b f xs = elim b [ true ↦ f ∷ xs | false ↦ [] ]

following_suc : (reads : ℕ → ℕ) (n k L : ℕ)
    → following reads n (suc k) L ≡ first (ltb (next reads n L) n) (next reads n L) (following reads n k (with L (next reads n L)))
unfolding following
following_suc reads n k L = refl

-- unlisted, and all that it reads is listed
abbrev pub able : (ℕ → ℕ) → ℕ → ℕ → Bool
able reads L f = not (member L f) && within (reads f) L

-- f comes next
pub record Lists (reads : ℕ → ℕ) (n k L f : ℕ) : Type 0 where
  pub low : f < n
  pub unlisted : member L f ≡ false
  pub reads_listed : within (reads f) L ≡ true
  pub is : following reads n (suc k) L ≡ f ∷ following reads n k (with L f)

-- nothing can come next
pub record Stops (reads : ℕ → ℕ) (n k L : ℕ) : Type 0 where
  pub none : (f : ℕ) → f < n → able reads L f ≡ false
  pub is : following reads n (suc k) L ≡ []

pub following_next : (reads : ℕ → ℕ) (n k L f : ℕ) → next reads n L ≡ f → f < n → following reads n (suc k) L ≡ f ∷ following reads n k (with L f)
following_next reads n k L f e l = following_suc reads n k L ∙ rw (e, lt-ltb f n l)

pub following_none : (reads : ℕ → ℕ) (n k L : ℕ) → next reads n L ≡ n → following reads n k L ≡ []
unfolding following
following_none reads n zero L e = refl
following_none reads n (suc k) L e = following_suc reads n k L ∙ rw (e, le-ltb n n (le_refl n))

pub step : (reads : ℕ → ℕ) (n k L : ℕ) → ((f : ℕ) × Lists reads n k L f) ⊎ Stops reads n k L
unfolding next
step reads n k L = go (next reads n L) refl (lowest_is (able reads L) n n)
  where
    go : (f : ℕ) → next reads n L ≡ f → Lowest (able reads L) n n f → ((f : ℕ) × Lists reads n k L f) ⊎ Stops reads n k L
    go f e (inl h) =
        inl (
          f,
          record {
            low = h.0;
            unlisted = not-true (member L f) (and_left (not (member L f)) (within (reads f) L) h.1);
            reads_listed = and_right (not (member L f)) (within (reads f) L) h.1;
            is = following_next reads n k L f e h.0;
          },
        )
    go f e (inr h) = inr (record { none = h.1; is = following_none reads n (suc k) L (e ∙ h.0) })

-- ---- what the plan lists

-- unlisted
abbrev pub unlisted? : ℕ → ℕ → Bool
unlisted? L f = not (member L f)

-- unlisted even with f listed
with_unlisted : (L f g : ℕ) → g < 64 → member (with L f) g ≡ false → (member L g ≡ false) × (f ≢ g)
with_unlisted L f g l e = (go (ℕ_discrete g f), λ d. clash (rw d (member_with_same L g l)) e)
  where
    go : Dec (g ≡ f) → member L g ≡ false
    go (yes d) = absurd (clash (rw d (member_with_same L f (rw d at l))) e)
    go (no d) = sym (member_with_other L f g l d) ∙ e

module _ (reads : ℕ → ℕ) (n : ℕ) (few : n ≤ 64) where
  -- below n and unlisted
  abbrev New : ℕ → ℕ → Type 0
  New L f = (f < n) × (member L f ≡ false)

  following_new : (k L : ℕ) → All (New L) (following reads n k L)
  unfolding following
  following_new zero L = tt
  following_new (suc k) L = go (step reads n k L) (λ f. following_new k (with L f))
    where
      go : ((f : ℕ) × Lists reads n k L f) ⊎ Stops reads n k L → ((f : ℕ) → All (New (with L f)) (following reads n k (with L f)))
          → All (New L) (following reads n (suc k) L)
      go (inl (f, s)) ih =
          rw s.is
          ((s.low, s.unlisted), all_map (New (with L f)) (New L) (λ g (l, e). (l, (with_unlisted L f g (omega arith) e).0)) (following reads n k (with L f)) (ih f))
      go (inr s) ih = rw s.is tt

  following_once : (k L : ℕ) → Distinct (following reads n k L)
  unfolding following
  following_once zero L = tt
  following_once (suc k) L = go (step reads n k L) (λ f. following_once k (with L f))
    where
      go : ((f : ℕ) × Lists reads n k L f) ⊎ Stops reads n k L → ((f : ℕ) → Distinct (following reads n k (with L f)))
          → Distinct (following reads n (suc k) L)
      go (inl (f, s)) ih =
          rw s.is (
            all_map (New (with L f)) (λ g. f ≢ g) (λ g (l, e). (with_unlisted L f g (omega arith) e).1)
                (following reads n k (with L f)) (following_new k (with L f)),
            ih f,
          )
      go (inr s) ih = rw s.is tt

  -- a field that is listed is one unlisted field less
  pub unlisted_step : (L f : ℕ) → f < n → member L f ≡ false → count (unlisted? L) n ≡ suc (count (unlisted? (with L f)) n)
  unlisted_step L f l e =
      count_but (unlisted? L) n f l (rw e refl)
      ∙ ap suc (count_cong (but (unlisted? L) f) (unlisted? (with L f)) n (λ i k. sym (ap not (member_with L f i (omega arith)) ∙ not_or (member L i) (eqb i f))))
    where
      not_or : (a b : Bool) → not (a || b) ≡ (not a && not b)
      not_or true b = refl
      not_or false b = refl

-- f was listed before, or stands before g in the list, if g is in it
abbrev Before : ℕ → ℕ → ℕ → List ℕ → Type 0
Before f g L xs = In g xs → (member L f ≡ true) ⊎ (place xs f < place xs g)

module _ (reads : ℕ → ℕ) (n g f : ℕ) (l : f < 64) (e : member (reads g) f ≡ true) where
  before_cons : (L x : ℕ) (xs : List ℕ) → within (reads x) L ≡ true → Before f g (with L x) xs → Before f g L (x ∷ xs)
  before_cons L x xs w ih h = case (ℕ_discrete x g) (ℕ_discrete x f) h
    where
      last : x ≢ g → x ≢ f → (member (with L x) f ≡ true) ⊎ (place xs f < place xs g) → (member L f ≡ true) ⊎ (place (x ∷ xs) f < place (x ∷ xs) g)
      last d q (inl m) = inl (sym (member_with_other L x f l (λ p. q (sym p))) ∙ m)
      last d q (inr m) = inr (rw (place_later f x xs q, place_later g x xs d) (omega arith))

      case : Dec (x ≡ g) → Dec (x ≡ f) → In g (x ∷ xs) → (member L f ≡ true) ⊎ (place (x ∷ xs) f < place (x ∷ xs) g)
      case (yes d) q h = inl (within_member (reads x) L f w l (rw d e))
      case (no d) (yes q) h = inr (rw (place_here f x xs q, place_later g x xs d) (omega arith))
      case (no d) (no q) (inl k) = absurd (d (sym k))
      case (no d) (no q) (inr k) = last d q (ih k)

  -- what a listed field reads was listed before, or stands before it
  following_before : (k L : ℕ) → Before f g L (following reads n k L)
  unfolding following
  following_before zero L = λ m. absurd m
  following_before (suc k) L = go (step reads n k L) (λ x. following_before k (with L x))
    where
      go : ((x : ℕ) × Lists reads n k L x) ⊎ Stops reads n k L → ((x : ℕ) → Before f g (with L x) (following reads n k (with L x)))
          → Before f g L (following reads n (suc k) L)
      go (inl (x, s)) ih = subst (Before f g L) (sym s.is) (before_cons L x (following reads n k (with L x)) s.reads_listed (ih x))
      go (inr s) ih = subst (Before f g L) (sym s.is) (λ m. absurd m)

-- ---- the plan

-- at first all n fields are unlisted
pub unlisted_all : (n : ℕ) → count (unlisted? 0) n ≡ n
unlisted_all n = count_cong (unlisted? 0) (λ f. true) n (λ f l. ap not (member_empty f)) ∙ count_all n

module _ (reads : ℕ → ℕ) (n : ℕ) where
  -- the place of a field in the plan
  abbrev pub rank_of : ℕ → ℕ
  rank_of = place (order reads n)

  -- what a listed field reads stands before it
  pub order_before : (g f : ℕ) → f < 64 → member (reads g) f ≡ true → In g (order reads n) → rank_of f < rank_of g
  unfolding order
  order_before g f l e h = go (following_before reads n g f l e n 0 h)
    where
      go : (member 0 f ≡ true) ⊎ (rank_of f < rank_of g) → rank_of f < rank_of g
      go (inl m) = absurd (clash m (member_empty f))
      go (inr m) = m

  -- there is no loop where all fields are listed
  pub length_no_loop : length (order reads n) ≡ n → has_loop reads n ≡ false
  unfolding has_loop
  length_no_loop e = ap not (eq-eqb (length (order reads n)) n e)

  pub no_loop_length : has_loop reads n ≡ false → length (order reads n) ≡ n
  unfolding has_loop
  no_loop_length e = eqb-true (length (order reads n)) n (not-false (eqb (length (order reads n)) n) e)

  module _ (few : n ≤ 64) where
    -- every listed field is one of the n
    pub order_low : All (λ f. f < n) (order reads n)
    unfolding order
    order_low = all_map (New reads n few 0) (λ f. f < n) (λ f h. h.0) (order reads n) (following_new reads n few n 0)

    -- none is listed twice
    pub order_once : Distinct (order reads n)
    unfolding order
    order_once = following_once reads n few n 0

    -- with no loop all n fields are listed
    pub order_whole : has_loop reads n ≡ false → Whole n (order reads n)
    order_whole e = record { below = order_low; once = order_once; whole = no_loop_length e }

    -- with no loop the places in the plan are ranks
    pub no_loop_ranked : has_loop reads n ≡ false → Ranked reads n n rank_of
    no_loop_ranked e = record {
      falls = λ g f lg lf m. order_before g f (omega arith) m (whole_in n (order reads n) (order_whole e) g lg);
      small = λ f l. omega (arith, place_in f (order reads n) (whole_in n (order reads n) (order_whole e) f l), no_loop_length e);
    }

-- ---- equal reads

-- two functions whose sets have, for each of n fields, the same members
abbrev pub Same : (ℕ → ℕ) → (ℕ → ℕ) → ℕ → Type 0
Same r s n = (f i : ℕ) → f < n → i < 64 → member (r f) i ≡ member (s f) i

module _ (r s : ℕ → ℕ) (n : ℕ) (same : Same r s n) where
  next_cong : (L : ℕ) → next r n L ≡ next s n L
  unfolding next
  next_cong L = lowest_cong _ _ n n (λ f l. ap (λ x. not (member L f) && x) (within_cong (r f) (s f) L (λ i. same f i l)))

  pub following_cong : (k L : ℕ) → following r n k L ≡ following s n k L
  unfolding following
  following_cong zero L = refl
  following_cong (suc k) L = following_suc r n k L ∙ rw (next_cong L, following_cong k (with L (next s n L))) (sym (following_suc s n k L))

  pub order_cong : order r n ≡ order s n
  unfolding order
  order_cong = following_cong n 0

  pub has_loop_cong : has_loop r n ≡ has_loop s n
  unfolding has_loop
  has_loop_cong = rw order_cong
