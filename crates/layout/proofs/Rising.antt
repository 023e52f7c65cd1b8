-- Lists with rising keys, lookups by a key, and what is listed number by number: a list with rising keys is what is listed from its lookups
-- (`listed_is`), since two lists with rising keys and the same entries are equal (`rising_same`). By induction on the lists. Assumes nothing.
use Prim.Native.Nat.{ℕ, zero, suc, ◌≤◌, ◌<◌}
use mathlib.Core.Path.{◌≡◌, refl, sym, ap, ◌∙◌}
use mathlib.Core.Bool.{Bool, true, false, cond}
use mathlib.Core.List.{List, [], ◌∷◌, ◌++◌, map}
use mathlib.Core.Logic.{◌≢◌, ◌⊎◌, inl, inr}
use native.Mathlib.Decide.{ℕ_discrete}
use native.Mathlib.Omega.{arith}
use borrow.Author.Tests.{eq-eqb, ne_eqb}
use lib.Dec.{eqb}
use lib.ListN.{length, get_or}
use Rattle.fieldset.specs.Tables.{at, tabulate}
use Rattle.fieldset.specs.Lists.{In, All, Distinct, place}
use Rattle.fieldset.proofs.Numbers.{clash}
use Rattle.fieldset.proofs.Tables.{get_d_tabulate}
use Rattle.fieldset.proofs.Lists.{all_in, in_all, all_map, all_at, all_append, in_left, in_right, in_map, map_in, place_here, place_later}
use Rattle.images.specs.Images.{gather}
use Rattle.images.proofs.Lines.{all_gather}
use Rattle.layout.specs.Layout.{Rising}

-- ---- rising numbers

pub rising_distinct : (xs : List ℕ) → Rising xs → Distinct xs
unfolding Rising
rising_distinct [] r = tt
rising_distinct (x ∷ xs) (a, r) = (all_map (λ y. x < y) (λ y. x ≢ y) (λ y l e. omega arith) xs a, rising_distinct xs r)

rising_append : (xs ys : List ℕ) → Rising xs → Rising ys → ((x y : ℕ) → In x xs → In y ys → x < y) → Rising (xs ++ ys)
unfolding Rising
rising_append [] ys r s h = s
rising_append (x ∷ xs) ys (a, r) s h = (
  all_append (λ y. x < y) xs ys a (in_all (λ y. x < y) ys (λ y m. h x y (inl refl) m)),
  rising_append xs ys r s (λ z y m k. h z y (inr m) k),
)

-- ---- entries with keys

module _ {A : Type 0} (key : A → ℕ) where
  -- an entry has the key, or none has
  abbrev pub Has : List A → ℕ → Type 0
  Has xs i = (x : A) × In x xs × (key x ≡ i)

  abbrev pub Absent : List A → ℕ → Type 0
  Absent xs i = (x : A) → In x xs → key x ≢ i

  -- where keys are distinct, a key has one entry
  pub once : (xs : List A) → Distinct (map key xs) → (x y : A) → In x xs → In y xs → key x ≡ key y → x ≡ y
  once [] _ x y x7 _ k = elim x7 [ ]
  once (z ∷ xs) (a, d) x y (inl e) (inl f) k = e ∙ sym f
  once (z ∷ xs) (a, d) x y (inl e) (inr m) k =
      absurd (all_in (λ b. key z ≢ b) (map key xs) (key y) a (in_map key y xs m) (ap key (sym e) ∙ k))
  once (z ∷ xs) (a, d) x y (inr m) (inl f) k =
      absurd (all_in (λ b. key z ≢ b) (map key xs) (key x) a (in_map key x xs m) (ap key (sym f) ∙ sym k))
  once (z ∷ xs) (a, d) x y (inr m) (inr l) k = once xs d x y m l k

  -- the entries behind the first
  rest_same : (x y : A) (xs ys : List A) → All (λ b. key x < b) (map key xs) → x ≡ y → All (λ z. In z (y ∷ ys)) xs → All (λ z. In z ys) xs
  rest_same x y xs ys a e h = in_all (λ z. In z ys) xs (λ z m. go z m (all_in (λ z. In z (y ∷ ys)) xs z h m))
    where
      go : (z : A) → In z xs → In z (y ∷ ys) → In z ys
      go z m (inl f) = absurd (omega (arith, all_in (λ b. key x < b) (map key xs) (key z) a (in_map key z xs m), ap key (e ∙ sym f)))
      go z m (inr k) = k

  -- rising keys and the same entries: the same list
  pub rising_same : (xs ys : List A) → Rising (map key xs) → Rising (map key ys) → All (λ x. In x ys) xs → All (λ y. In y xs) ys → xs ≡ ys
  unfolding Rising
  rising_same [] [] r s h k = refl
  rising_same [] (y ∷ ys) r s h k = absurd k.0
  rising_same (x ∷ xs) [] r s h k = absurd h.0
  rising_same (x ∷ xs) (y ∷ ys) (a, r) (b, s) (m, h) (l, k) =
      let e : x ≡ y = head m l in
      let t : xs ≡ ys = rising_same xs ys r s (rest_same x y xs ys a e h) (rest_same y x ys xs b (sym e) k) in
      cc
    where
      head : In x (y ∷ ys) → In y (x ∷ xs) → x ≡ y
      head (inl e) l = e
      head (inr m) (inl f) = sym f
      head (inr m) (inr l) =
          absurd (omega (
            arith,
            all_in (λ c. key x < c) (map key xs) (key y) a (in_map key y xs l),
            all_in (λ c. key y < c) (map key ys) (key x) b (in_map key x ys m),
          ))

-- ---- what is listed number by number

map_append : {A B : Type 0} (g : A → B) (xs ys : List A) → map g (xs ++ ys) ≡ map g xs ++ map g ys
map_append g [] ys = refl
map_append g (x ∷ xs) ys = ap (λ (zs : List _). g x ∷ zs) (map_append g xs ys)

pub gather_cong : {A : Type 0} (f g : ℕ → List A) (n : ℕ) → ((i : ℕ) → i < n → f i ≡ g i) → gather f n ≡ gather g n
unfolding gather
gather_cong f g zero h = refl
gather_cong f g (suc n) h = rw (gather_cong f g n (λ i l. h i (omega arith)), h n (omega arith))

-- of each number below n that passes the test its entry
abbrev pub listed : {A : Type 0} → (ℕ → Bool) → (ℕ → A) → ℕ → List A
listed t x n = gather (λ i. cond (t i) (x i ∷ []) []) n

pub listed_map : {A B : Type 0} (g : A → B) (t : ℕ → Bool) (x : ℕ → A) (n : ℕ) → map g (listed t x n) ≡ listed t (λ i. g (x i)) n
unfolding gather
listed_map g t x zero = refl
listed_map g t x (suc n) = map_append g (listed t x n) (cond (t n) (x n ∷ []) []) ∙ rw (listed_map g t x n) (go (t n))
  where
    go : (b : Bool) → listed t (λ i. g (x i)) n ++ map g (cond b (x n ∷ []) []) ≡ listed t (λ i. g (x i)) n ++ cond b (g (x n) ∷ []) []
    go true = refl
    go false = refl

module _ {A : Type 0} (t : ℕ → Bool) (x : ℕ → A) where
  pub listed_all : (P : A → Type 0) (n : ℕ) → ((i : ℕ) → i < n → t i ≡ true → P (x i)) → All P (listed t x n)
  listed_all P n h = all_gather P (λ i. cond (t i) (x i ∷ []) []) n (λ i l. go i (t i) (h i l))
    where
      go : (i : ℕ) (b : Bool) → (b ≡ true → P (x i)) → All P (cond b (x i ∷ []) [])
      go i true k = (k refl, tt)
      go i false k = tt

  pub listed_in : (n i : ℕ) → i < n → t i ≡ true → In (x i) (listed t x n)
  unfolding gather
  listed_in zero i l e = absurd (omega arith)
  listed_in (suc n) i l e = go (ℕ_discrete i n) (listed_in n i)
    where
      go : Dec (i ≡ n) → (i < n → t i ≡ true → In (x i) (listed t x n)) → In (x i) (listed t x n ++ cond (t n) (x n ∷ []) [])
      go (yes d) ih = in_right (x i) (listed t x n) (cond (t n) (x n ∷ []) []) (rw (← d, e) (inl refl))
      go (no d) ih = in_left (x i) (listed t x n) (cond (t n) (x n ∷ []) []) (ih (omega arith) e)

  -- each entry has its number as its key
  module _ (key : A → ℕ) where
    pub listed_rising : (n : ℕ) → ((i : ℕ) → i < n → key (x i) ≡ i) → Rising (map key (listed t x n))
    unfolding gather Rising
    listed_rising zero h = tt
    listed_rising (suc n) h =
        rw (map_append key (listed t x n) (cond (t n) (x n ∷ []) []))
        (rising_append (map key (listed t x n)) (map key (cond (t n) (x n ∷ []) [])) (listed_rising n (λ i l. h i (omega arith))) (one (t n)) before)
      where
        one : (b : Bool) → Rising (map key (cond b (x n ∷ []) []))
        one true = (tt, tt)
        one false = tt

        here : (b : Bool) → All (λ y. key y ≡ n) (cond b (x n ∷ []) [])
        here true = (h n (omega arith), tt)
        here false = tt

        before : (a b : ℕ) → In a (map key (listed t x n)) → In b (map key (cond (t n) (x n ∷ []) [])) → a < b
        before a b m k =
            let (y, my, ey) = map_in key a (listed t x n) m in
            let (z, mz, ez) = map_in key b (cond (t n) (x n ∷ []) []) k in
            omega (
              arith,
              all_in (λ y. key y < n) (listed t x n) y (listed_all (λ y. key y < n) n (λ i l e. omega (arith, h i (omega arith)))) my,
              all_in (λ y. key y ≡ n) (cond (t n) (x n ∷ []) []) z (here (t n)) mz,
            )

    -- a list with rising keys is what is listed, where its entries are, and each number that passes is an entry's key
    pub listed_is : (n : ℕ) (ys : List A) → ((i : ℕ) → i < n → key (x i) ≡ i) → Rising (map key ys) → All (λ y. key y < n) ys
        → ((y : A) → In y ys → (t (key y) ≡ true) × (x (key y) ≡ y)) → ((i : ℕ) → i < n → t i ≡ true → Has key ys i) → listed t x n ≡ ys
    listed_is n ys h r low is has =
        rising_same key (listed t x n) ys (listed_rising n h) r
        (listed_all (λ z. In z ys) n (λ i l e. there i (has i l e)))
        (in_all (λ y. In y (listed t x n)) ys (λ y m.
        rw (is y m).1 at (listed_in n (key y) (all_in (λ y. key y < n) ys y low m) (is y m).0)))
      where
        there : (i : ℕ) → Has key ys i → In (x i) ys
        there i (y, m, e) = rw (← e, (is y m).1) m

-- ---- lookups

module _ {A B : Type 0} (key : A → ℕ) (g : A → B) (d : B) where
  -- what the first entry with this key gives; d where none has it
  unfoldable pub look : List A → ℕ → B
  look [] i = d
  look (x ∷ xs) i = cond (eqb (key x) i) (g x) (look xs i)

  abbrev pub Looked : List A → ℕ → B → Type 0
  Looked xs i b = ((x : A) × In x xs × (key x ≡ i) × (b ≡ g x)) ⊎ (Absent key xs i × (b ≡ d))

  look_is : (xs : List A) (i : ℕ) → Looked xs i (look xs i)
  unfolding look
  look_is [] i = inr ((λ x m. absurd m), refl)
  look_is (x ∷ xs) i = go (ℕ_discrete (key x) i) (look_is xs i)
    where
      go : Dec (key x ≡ i) → Looked xs i (look xs i) → Looked (x ∷ xs) i (cond (eqb (key x) i) (g x) (look xs i))
      go (yes e) h = inl (x, inl refl, e, rw (eq-eqb (key x) i e))
      go (no e) (inl (y, m, k, b)) = inl (y, inr m, k, rw (ne_eqb (key x) i e) b)
      go (no e) (inr (a, b)) = inr (other, rw (ne_eqb (key x) i e) b)
        where
          other : Absent key (x ∷ xs) i
          other y (inl f) q = e (ap key (sym f) ∙ q)
          other y (inr m) q = a y m q

  -- the lookups of the numbers below n
  abbrev pub table : List A → ℕ → List B
  table xs n = tabulate (look xs) n

  pub table_is : (xs : List A) (n i : ℕ) (c : B) → i < n → Looked xs i (get_or (table xs n) i c)
  table_is xs n i c l = rw (get_d_tabulate (look xs) n i c l) (look_is xs i)

  pub table_in : (xs : List A) (n : ℕ) (x : A) (c : B) → Distinct (map key xs) → In x xs → key x < n → get_or (table xs n) (key x) c ≡ g x
  table_in xs n x c once_each m l = go (table_is xs n (key x) c l)
    where
      go : Looked xs (key x) (get_or (table xs n) (key x) c) → get_or (table xs n) (key x) c ≡ g x
      go (inl (y, k, e, b)) = b ∙ ap g (once key xs once_each y x k m e)
      go (inr (a, b)) = absurd (a x m refl)

  -- a list with rising keys is listed from its lookups, where a line of a number and what is looked up there makes the entry anew
  pub table_back : (test : B → Bool) (line : ℕ → B → A) (xs : List A) (m n : ℕ) (c : B) → m ≤ n → test d ≡ false → ((i : ℕ) (b : B) → key (line i b) ≡ i)
      → Rising (map key xs) → All (λ x. key x < m) xs → All (λ x. (test (g x) ≡ true) × (line (key x) (g x) ≡ x)) xs
      → listed (λ i. test (get_or (table xs n) i c)) (λ i. line i (get_or (table xs n) i c)) m ≡ xs
  table_back test line xs m n c h off keys rise low same =
      listed_is (λ i. test (get_or (table xs n) i c)) (λ i. line i (get_or (table xs n) i c)) key m xs (λ i l. keys i (get_or (table xs n) i c)) rise low
      (λ x k.
      let e : get_or (table xs n) (key x) c ≡ g x =
      table_in xs n x c (rising_distinct (map key xs) rise) k (omega (arith, all_in (λ x. key x < m) xs x low k))
      in
      let is = all_in (λ x. (test (g x) ≡ true) × (line (key x) (g x) ≡ x)) xs x same k in
      (ap test e ∙ is.0, ap (line (key x)) e ∙ is.1))
      (λ i l t. has i t (table_is xs n i c (omega arith)))
    where
      has : (i : ℕ) → test (get_or (table xs n) i c) ≡ true → Looked xs i (get_or (table xs n) i c) → Has key xs i
      has i t (inl (x, k, e, b)) = (x, k, e)
      has i t (inr (a, b)) = absurd (clash t (ap test b ∙ off))

-- ---- tables and places

pub tabulate_all : {A : Type 0} (P : A → Type 0) (f : ℕ → A) (n : ℕ) → ((i : ℕ) → i < n → P (f i)) → All P (tabulate f n)
unfolding tabulate
tabulate_all P f zero h = tt
tabulate_all P f (suc n) h = all_append P (tabulate f n) (f n ∷ []) (tabulate_all P f n (λ i l. h i (omega arith))) (h n (omega arith), tt)

pub tabulate_distinct : (f : ℕ → ℕ) (n : ℕ) → ((i j : ℕ) → i < n → j < n → f i ≡ f j → i ≡ j) → Distinct (tabulate f n)
unfolding tabulate
tabulate_distinct f zero h = tt
tabulate_distinct f (suc n) h =
    last (tabulate f n) (tabulate_distinct f n (λ i j k l. h i j (omega arith) (omega arith)))
    (tabulate_all (λ y. y ≢ f n) f n (λ i l e. omega (arith, h i n (omega arith) (omega arith) e)))
  where
    last : (xs : List ℕ) → Distinct xs → All (λ y. y ≢ f n) xs → Distinct (xs ++ (f n ∷ []))
    last [] d a = (tt, tt)
    last (x ∷ xs) (b, d) (e, a) = (all_append (λ y. x ≢ y) xs (f n ∷ []) b (e, tt), last xs d a)

-- the place of an entry, where each stands once, and the entry at a place
pub place_of : (xs : List ℕ) → Distinct xs → (i : ℕ) → i < length xs → place xs (at xs i) ≡ i
place_of [] d i l = absurd (omega arith)
place_of (x ∷ xs) d zero l = place_here x x xs refl
place_of (x ∷ xs) (a, d) (suc i) l =
    place_later (at xs i) x xs (all_at (λ y. x ≢ y) 0 xs a i (omega arith)) ∙ ap suc (place_of xs d i (omega arith))

pub at_place : (xs : List ℕ) (f : ℕ) → In f xs → at xs (place xs f) ≡ f
at_place [] f m = elim m [ ]
at_place (x ∷ xs) f m = go (ℕ_discrete x f) m (at_place xs f)
  where
    go : Dec (x ≡ f) → In f (x ∷ xs) → (In f xs → at xs (place xs f) ≡ f) → at (x ∷ xs) (place (x ∷ xs) f) ≡ f
    go (yes e) m ih = rw (place_here f x xs e) e
    go (no e) (inl q) ih = absurd (e (sym q))
    go (no e) (inr m) ih = rw (place_later f x xs e) (ih m)
