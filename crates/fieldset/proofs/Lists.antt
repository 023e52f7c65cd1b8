-- Laws of lists: members, what all entries have, lists without repeats, lists of the numbers below n, and places. By induction on the list; n numbers
-- below n without repeats are all of them by the pigeonhole (`whole_in`).
use Prim.Native.Nat.{ℕ, zero, suc, ◌≤◌, ◌<◌, zero-le, suc-le-suc}
use mathlib.Core.Path.{◌≡◌, refl, sym, ap, ◌∙◌}
use mathlib.Core.Bool.{Bool, true, false, cond}
use mathlib.Core.List.{List, [], ◌∷◌, ◌++◌, map}
use mathlib.Core.Logic.{◌≢◌, ◌⊎◌, inl, inr}
use native.Mathlib.Nat.{le_refl}
use native.Mathlib.Decide.{ℕ_discrete}
use native.Mathlib.Omega.{arith}
use borrow.Author.Tests.{eq-eqb, ne_eqb}
use lib.ListN.{length, get_or}
use Rattle.fieldset.specs.Tables.{tabulate}
use Rattle.fieldset.specs.Lists.{In, All, Distinct, passing, place}
use Rattle.fieldset.proofs.Numbers.{below_suc}
use Rattle.fieldset.proofs.Tables.{length_tabulate}

-- ---- members and all entries

module _ {A : Type 0} where
  pub all_in : (P : A → Type 0) (xs : List A) (x : A) → All P xs → In x xs → P x
  all_in P [] x a x4 = elim x4 [ ]
  all_in P (y ∷ ys) x a (inl e) = rw e a.0
  all_in P (y ∷ ys) x a (inr m) = all_in P ys x a.1 m

  pub in_all : (P : A → Type 0) (xs : List A) → ((x : A) → In x xs → P x) → All P xs
  in_all P [] h = tt
  in_all P (x ∷ xs) h = (h x (inl refl), in_all P xs (λ y m. h y (inr m)))

  pub all_map : (P Q : A → Type 0) → ((x : A) → P x → Q x) → (xs : List A) → All P xs → All Q xs
  all_map P Q h xs a = in_all Q xs (λ x m. h x (all_in P xs x a m))

  pub all_at : (P : A → Type 0) (d : A) (xs : List A) → All P xs → (i : ℕ) → i < length xs → P (get_or xs i d)
  all_at P d [] a i l = absurd (omega arith)
  all_at P d (x ∷ xs) a zero l = a.0
  all_at P d (x ∷ xs) a (suc i) l = all_at P d xs a.1 i (omega arith)

  -- ---- joined lists

  pub in_left : (x : A) (xs ys : List A) → In x xs → In x (xs ++ ys)
  in_left x [] ys x'' = elim x'' [ ]
  in_left x (y ∷ xs) ys (inl e) = inl e
  in_left x (y ∷ xs) ys (inr m) = inr (in_left x xs ys m)

  pub in_right : (x : A) (xs ys : List A) → In x ys → In x (xs ++ ys)
  in_right x [] ys m = m
  in_right x (y ∷ xs) ys m = inr (in_right x xs ys m)

  pub all_append : (P : A → Type 0) (xs ys : List A) → All P xs → All P ys → All P (xs ++ ys)
  all_append P [] ys a b = b
  all_append P (x ∷ xs) ys a b = (a.0, all_append P xs ys a.1 b)

  -- ---- the entries that pass a test

  pub in_passing : (q : A → Bool) (xs : List A) (x : A) → In x xs → q x ≡ true → In x (passing q xs)
  unfolding passing
  in_passing q [] x x4 e = elim x4 [ ]
  in_passing q (y ∷ ys) x (inl d) e = rw (← d, e) (inl refl)
  in_passing q (y ∷ ys) x (inr m) e = go (q y) (in_passing q ys x m e)
    where
      go : (b : Bool) → In x (passing q ys) → In x (cond b (y ∷ passing q ys) (passing q ys))
      go true k = inr k
      go false k = k

  pub passing_in : (q : A → Bool) (xs : List A) → All (λ x. In x xs × (q x ≡ true)) (passing q xs)
  unfolding passing
  passing_in q [] = tt
  passing_in q (y ∷ ys) = go (q y) refl (all_map (λ x. In x ys × (q x ≡ true)) (λ x. In x (y ∷ ys) × (q x ≡ true))
      (λ x (m, e). (inr m, e)) (passing q ys) (passing_in q ys))
    where
      go : (b : Bool) → q y ≡ b → All (λ x. In x (y ∷ ys) × (q x ≡ true)) (passing q ys)
          → All (λ x. In x (y ∷ ys) × (q x ≡ true)) (cond b (y ∷ passing q ys) (passing q ys))
      go true e a = ((inl refl, e), a)
      go false e a = a

  pub passing_cong : (q r : A → Bool) (xs : List A) → All (λ x. q x ≡ r x) xs → passing q xs ≡ passing r xs
  unfolding passing
  passing_cong q r [] a = refl
  passing_cong q r (x ∷ xs) a = rw (a.0, passing_cong q r xs a.1)

  -- ---- lists without repeats

  -- the list with a member struck out
  rest : (x : A) (ys : List A) → In x ys → List A
  rest x [] x'' = elim x'' [ ]
  rest x (y ∷ ys) (inl e) = ys
  rest x (y ∷ ys) (inr m) = y ∷ rest x ys m

  length_rest : (x : A) (ys : List A) (m : In x ys) → length ys ≡ suc (length (rest x ys m))
  unfolding rest
  length_rest x [] m = elim m [ ]
  length_rest x (y ∷ ys) (inl e) = refl
  length_rest x (y ∷ ys) (inr m) = ap suc (length_rest x ys m)

  in_rest : (x z : A) (ys : List A) (m : In x ys) → In z ys → x ≢ z → In z (rest x ys m)
  unfolding rest
  in_rest x z [] m _ ne = elim m [ ]
  in_rest x z (y ∷ ys) (inl e) (inl d) ne = absurd (ne (e ∙ sym d))
  in_rest x z (y ∷ ys) (inl e) (inr k) ne = k
  in_rest x z (y ∷ ys) (inr m) (inl d) ne = inl d
  in_rest x z (y ∷ ys) (inr m) (inr k) ne = inr (in_rest x z ys m k ne)

  -- the pigeonhole: a list without repeats, all of whose entries stand in another, is no longer
  pub pigeonhole : (xs ys : List A) → Distinct xs → All (λ x. In x ys) xs → length xs ≤ length ys
  pigeonhole [] ys d a = zero-le
  pigeonhole (x ∷ xs) ys d a =
      rw (length_rest x ys a.0)
      (suc-le-suc (pigeonhole xs (rest x ys a.0) d.1
      (in_all (λ z. In z (rest x ys a.0)) xs
      (λ z m. in_rest x z ys a.0 (all_in (λ z. In z ys) xs z a.1 m) (all_in (λ y. x ≢ y) xs z d.0 m)))))

-- ---- images

module _ {A B : Type 0} (g : A → B) where
  pub in_map : (x : A) (xs : List A) → In x xs → In (g x) (map g xs)
  in_map x [] x'' = elim x'' [ ]
  in_map x (y ∷ xs) (inl e) = inl (ap g e)
  in_map x (y ∷ xs) (inr m) = inr (in_map x xs m)

  pub map_in : (y : B) (xs : List A) → In y (map g xs) → (x : A) × In x xs × (y ≡ g x)
  map_in y [] x' = elim x' [ ]
  map_in y (x ∷ xs) (inl e) = (x, inl refl, e)
  map_in y (x ∷ xs) (inr m) = let (z, k, e) = map_in y xs m in (z, inr k, e)

  pub map_all : (P : B → Type 0) (xs : List A) → All (λ x. P (g x)) xs → All P (map g xs)
  map_all P [] a = tt
  map_all P (x ∷ xs) a = (a.0, map_all P xs a.1)

  pub passing_map : (q : B → Bool) (xs : List A) → passing q (map g xs) ≡ map g (passing (λ x. q (g x)) xs)
  unfolding passing
  passing_map q [] = refl
  passing_map q (x ∷ xs) = go (q (g x)) (passing_map q xs)
    where
      go : (b : Bool) → passing q (map g xs) ≡ map g (passing (λ x. q (g x)) xs)
          → cond b (g x ∷ passing q (map g xs)) (passing q (map g xs)) ≡ map g (cond b (x ∷ passing (λ x. q (g x)) xs) (passing (λ x. q (g x)) xs))
      go true e = ap (λ (ys : List B). g x ∷ ys) e
      go false e = e

  pub passing_distinct : (q : A → Bool) (xs : List A) → Distinct (map g xs) → Distinct (map g (passing q xs))
  unfolding passing
  passing_distinct q [] d = tt
  passing_distinct q (x ∷ xs) d = go (q x) (passing_distinct q xs d.1)
    where
      apart : All (λ y. g x ≢ g y) (passing q xs)
      apart =
          all_map (λ y. In y xs × (q y ≡ true)) (λ y. g x ≢ g y) (λ y (m, e). all_in (λ z. g x ≢ z) (map g xs) (g y) d.0 (in_map y xs m))
          (passing q xs) (passing_in q xs)

      go : (b : Bool) → Distinct (map g (passing q xs)) → Distinct (map g (cond b (x ∷ passing q xs) (passing q xs)))
      go true k = (map_all (λ y. g x ≢ y) (passing q xs) apart, k)
      go false k = k

-- images are distinct that are where two other images are
pub distinct_map : {A B C D : Type 0} (f : A → B) (h : A → C) (g : A → D) (xs : List A) → Distinct (map f xs) → Distinct (map h xs)
    → ((x y : A) → In x xs → In y xs → f x ≢ f y → h x ≢ h y → g x ≢ g y) → Distinct (map g xs)
distinct_map f h g [] d e k = tt
distinct_map f h g (x ∷ xs) d e k = (
  map_all g (λ y. g x ≢ y) xs
      (in_all (λ y. g x ≢ g y) xs
      (λ y m.
      k x y (inl refl) (inr m) (all_in (λ z. f x ≢ z) (map f xs) (f y) d.0 (in_map f y xs m))
      (all_in (λ z. h x ≢ z) (map h xs) (h y) e.0 (in_map h y xs m)))),
  distinct_map f h g xs d.1 e.1 (λ y z my mz. k y z (inr my) (inr mz)),
)

-- ---- the numbers below n

-- one of them has the property, or none has
pub find : (P : ℕ → Type 0) → ((i : ℕ) → Dec (P i)) → (n : ℕ) → ((i : ℕ) × (i < n) × P i) ⊎ ((i : ℕ) → i < n → P i → ⊥)
find P dec zero = inr (λ i l. absurd (omega arith))
find P dec (suc n) = go (dec n) (find P dec n)
  where
    go : Dec (P n) → ((i : ℕ) × (i < n) × P i) ⊎ ((i : ℕ) → i < n → P i → ⊥) → ((i : ℕ) × (i < suc n) × P i) ⊎ ((i : ℕ) → i < suc n → P i → ⊥)
    go (yes p) r = inl (n, le_refl (suc n), p)
    go (no p) (inl (i, l, q)) = inl (i, omega arith, q)
    go (no p) (inr h) = inr (below_suc (λ i. P i → ⊥) n h p)

pub in_tabulate : (n i : ℕ) → i < n → In i (tabulate (λ k. k) n)
unfolding tabulate
in_tabulate zero i l = absurd (omega arith)
in_tabulate (suc n) i l = go (ℕ_discrete i n) (in_tabulate n i)
  where
    go : Dec (i ≡ n) → (i < n → In i (tabulate (λ k. k) n)) → In i (tabulate (λ k. k) n ++ (n ∷ []))
    go (yes d) ih = in_right i (tabulate (λ k. k) n) (n ∷ []) (inl d)
    go (no d) ih = in_left i (tabulate (λ k. k) n) (n ∷ []) (ih (omega arith))

pub tabulate_below : (n : ℕ) → All (λ k. k < n) (tabulate (λ k. k) n)
unfolding tabulate
tabulate_below zero = tt
tabulate_below (suc n) =
    all_append (λ k. k < suc n) (tabulate (λ k. k) n) (n ∷ [])
    (all_map (λ k. k < n) (λ k. k < suc n) (λ k l. omega arith) (tabulate (λ k. k) n) (tabulate_below n)) (le_refl (suc n), tt)

distinct_last : (xs : List ℕ) (x : ℕ) → Distinct xs → All (λ y. y < x) xs → Distinct (xs ++ (x ∷ []))
distinct_last [] x d a = (tt, tt)
distinct_last (y ∷ ys) x (h, d) (l, a) = (all_append (λ z. y ≢ z) ys (x ∷ []) h ((λ e. omega arith), tt), distinct_last ys x d a)

pub tabulate_distinct : (n : ℕ) → Distinct (tabulate (λ k. k) n)
unfolding tabulate
tabulate_distinct zero = tt
tabulate_distinct (suc n) = distinct_last (tabulate (λ k. k) n) n (tabulate_distinct n) (tabulate_below n)

-- numbers below n, each once, are at most n
pub below_length : (n : ℕ) (xs : List ℕ) → All (λ x. x < n) xs → Distinct xs → length xs ≤ n
below_length n xs a d =
    rw (← length_tabulate (λ (k : ℕ). k) n)
    (pigeonhole xs (tabulate (λ k. k) n) d (all_map (λ x. x < n) (λ x. In x (tabulate (λ k. k) n)) (in_tabulate n) xs a))

in_dec : (f : ℕ) (xs : List ℕ) → Dec (In f xs)
in_dec f [] = no (λ m. m)
in_dec f (x ∷ xs) = go (ℕ_discrete f x) (in_dec f xs)
  where
    go : Dec (f ≡ x) → Dec (In f xs) → Dec (In f (x ∷ xs))
    go (yes e) k = yes (inl e)
    go (no e) (yes m) = yes (inr m)
    go (no e) (no m) = no (λ o. elim o [ inl d ↦ e d | inr k ↦ m k ])

-- n numbers below n, each once
pub record Whole (n : ℕ) (xs : List ℕ) : Type 0 where
  pub below : All (λ x. x < n) xs
  pub once : Distinct xs
  pub whole : length xs ≡ n

-- each number below n is there
pub whole_in : (n : ℕ) (xs : List ℕ) → Whole n xs → (f : ℕ) → f < n → In f xs
whole_in n xs w f l = go (in_dec f xs)
  where
    go : Dec (In f xs) → In f xs
    go (yes m) = m
    go (no m) =
        let long : suc (length xs) ≤ n = below_length n (f ∷ xs) (l, w.below) (in_all (λ x. f ≢ x) xs (λ x k e. m (rw e k)), w.once) in
        absurd (omega (arith, w.whole))

-- ---- places

pub place_here : (f x : ℕ) (xs : List ℕ) → x ≡ f → place (x ∷ xs) f ≡ 0
unfolding place
place_here f x xs e = rw (eq-eqb x f e)

pub place_later : (f x : ℕ) (xs : List ℕ) → x ≢ f → place (x ∷ xs) f ≡ suc (place xs f)
unfolding place
place_later f x xs e = rw (ne_eqb x f e)

-- what stands in the list has a place in it
pub place_in : (f : ℕ) (xs : List ℕ) → In f xs → place xs f < length xs
place_in f [] x' = elim x' [ ]
place_in f (x ∷ xs) (inl e) = rw (place_here f x xs (sym e)) (omega arith)
place_in f (x ∷ xs) (inr m) = go (ℕ_discrete x f) (place_in f xs m)
  where
    go : Dec (x ≡ f) → place xs f < length xs → place (x ∷ xs) f < length (x ∷ xs)
    go (yes e) l = rw (place_here f x xs e) (omega arith)
    go (no e) l = rw (place_later f x xs e) (omega arith)

-- and what has a place in it stands there
pub place_found : (f : ℕ) (xs : List ℕ) → place xs f < length xs → In f xs
place_found f [] l = absurd (omega arith)
place_found f (x ∷ xs) l = go (ℕ_discrete x f) (place_found f xs)
  where
    go : Dec (x ≡ f) → (place xs f < length xs → In f xs) → In f (x ∷ xs)
    go (yes e) h = inl (sym e)
    go (no e) h = inr (h (omega (arith, place_later f x xs e)))

-- the place of an entry that does not stand before it
pub place_at : (f : ℕ) (xs : List ℕ) (i : ℕ) → i < length xs → ((j : ℕ) → j < i → get_or xs j 0 ≢ f) → get_or xs i 0 ≡ f → place xs f ≡ i
place_at f [] i l h e = absurd (omega arith)
place_at f (x ∷ xs) zero l h e = place_here f x xs e
place_at f (x ∷ xs) (suc i) l h e = place_later f x xs (h 0 (omega arith)) ∙ ap suc (place_at f xs i (omega arith) (λ j k. h (suc j) (omega arith)) e)
