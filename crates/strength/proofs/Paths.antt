-- Laws of `lowest_at`, `strongest` and `path`. A field stronger than its setter's level has another output of its setter as strong (`path_onto`), so
-- with fuel above its rank the path is a `Chain`, which ends at a setter of that level; its fields fall in rank, so they are distinct
-- (`chain_distinct`).
use Prim.Native.Nat.{ℕ, zero, suc, ◌≤◌, ◌<◌, max}
use mathlib.Core.Path.{◌≡◌, refl, ap, ap₂}
use mathlib.Core.Logic.{◌≢◌}
use mathlib.Core.Bool.{Bool, true, false, ◌&&◌}
use mathlib.Core.List.{List, [], ◌∷◌}
use native.Mathlib.Nat.{not-suc-le-zero}
use native.Mathlib.Decide.{ℕ_discrete}
use native.Mathlib.Omega.{arith}
use borrow.Author.Tests.{eq-eqb, ne_eqb, eqb-true}
use lib.Dec.{eqb}
use lib.ListN.{length}
use Rattle.fieldset.specs.Numbers.{lowest}
use Rattle.fieldset.specs.Lists.{All, Distinct}
use Rattle.fieldset.specs.Fields.{member, without, lowest_of, First, filter}
use Rattle.fieldset.proofs.Tests.{and_left, and_right}
use Rattle.fieldset.proofs.Numbers.{lowest_cong, lowest_none, lowest_lt, lowest_true, lowest_unique}
use Rattle.fieldset.proofs.Lists.{all_map, below_length}
use Rattle.fieldset.proofs.Fields.{member_empty, member_filter, without_failing, lowest_of_before}
use Rattle.strength.specs.Strength.{greatest, strength, lowest_at, strongest, path}
use Rattle.strength.proofs.Maxima.{greatest_found, greatest_some}
use Rattle.strength.proofs.Depth.{Falls, strength_fixed}

-- ---- the lowest-numbered field at a strength

-- u is a field of the set m at the strength s
pub record Tie (str : ℕ → ℕ) (s m u : ℕ) : Type 0 where
  pub field : u < 64
  pub is_in : member m u ≡ true
  pub strong : str u ≡ s

-- where there is one, the lowest-numbered is one
pub lowest_at_found : (str : ℕ → ℕ) (s m u : ℕ) → Tie str s m u → Tie str s m (lowest_at str s m)
unfolding lowest_at
lowest_at_found str s m u T =
    let p : ℕ → Bool = λ u. member m u && eqb (str u) s in
    let hit : (member m u && eqb (str u) s) ≡ true = ap₂ ◌&&◌ T.is_in (eq-eqb (str u) s T.strong) in
    let w = lowest p 64 64 in
    let h : (member m w && eqb (str w) s) ≡ true = lowest_true p 64 64 u T.field hit in
    record {
      field = lowest_lt p 64 64 u T.field hit;
      is_in = and_left (member m w) (eqb (str w) s) h;
      strong = eqb-true (str w) s (and_right (member m w) (eqb (str w) s) h);
    }

pub lowest_at_empty : (str : ℕ → ℕ) (s : ℕ) → lowest_at str s 0 ≡ 64
unfolding lowest_at
lowest_at_empty str s =
    lowest_none (λ u. member 0 u && eqb (str u) s) 64 64 (λ u l. ap (λ (b : Bool). b && eqb (str u) s) (member_empty u))

-- only the fields of the set count
pub lowest_at_cong : (str str' : ℕ → ℕ) (s m : ℕ) → ((u : ℕ) → u < 64 → member m u ≡ true → str u ≡ str' u) → lowest_at str s m ≡ lowest_at str' s m
unfolding lowest_at
lowest_at_cong str str' s m h = lowest_cong (λ u. member m u && eqb (str u) s) (λ u. member m u && eqb (str' u) s) 64 64 (λ u l. go u l (member m u) refl)
  where
    go : (u : ℕ) → u < 64 → (b : Bool) → member m u ≡ b → (b && eqb (str u) s) ≡ (b && eqb (str' u) s)
    go u l true e = ap (λ (x : ℕ). eqb x s) (h u l e)
    go u l false e = refl

-- the first field, where it has the strength
pub lowest_at_hit : (str : ℕ → ℕ) (s : ℕ) {m u : ℕ} → First m u → str u ≡ s → lowest_at str s m ≡ u
unfolding lowest_at
lowest_at_hit str s {m} {u} U e =
    lowest_unique (λ u. member m u && eqb (str u) s) 64 64 u U.field (ap₂ ◌&&◌ U.is_in (eq-eqb (str u) s e))
    (λ j l. ap (λ (b : Bool). b && eqb (str j) s) (lowest_of_before m j (rw U.is_lowest at l)))

-- a field that has not may go
pub lowest_at_pass : (str : ℕ → ℕ) (s m u : ℕ) → str u ≢ s → lowest_at str s (without m u) ≡ lowest_at str s m
unfolding lowest_at
lowest_at_pass str s m u n = lowest_cong _ _ 64 64 (without_failing (λ j. eqb (str j) s) m u (ne_eqb (str u) s n))

-- the lowest of those that have
pub lowest_ties : (str : ℕ → ℕ) (s m : ℕ) → lowest_of (filter (λ u. eqb (str u) s) m) ≡ lowest_at str s m
unfolding lowest_of lowest_at
lowest_ties str s m = lowest_cong _ _ 64 64 (member_filter (λ u. eqb (str u) s) m)

-- a set that is not empty has a strongest field
pub strongest_found : (str : ℕ → ℕ) (m u : ℕ) → u < 64 → member m u ≡ true → Tie str (greatest (member m) str 64) m (strongest str m)
unfolding strongest
strongest_found str m u l e =
    let (w, h, f, g) = greatest_some (member m) str 64 u l e in
    lowest_at_found str (greatest (member m) str 64) m w (record { field = h; is_in = f; strong = g })

-- ---- the path

module _ (level others str : ℕ → ℕ) (s : ℕ) where
  -- it starts at v
  pub path_starts : (k v : ℕ) → 0 < k → (vs : List ℕ) × (path level others str s k v ≡ v ∷ vs)
  unfolding path
  path_starts zero v h = absurd (not-suc-le-zero h)
  path_starts (suc k) v h = (_, refl)

  pub path_stop : (k v : ℕ) → level v ≡ s → path level others str s (suc k) v ≡ v ∷ []
  unfolding path
  path_stop k v e = rw (eq-eqb (level v) s e)

  pub path_go : (k v : ℕ) → level v ≢ s
      → path level others str s (suc k) v ≡ v ∷ path level others str s k (lowest_at str s (others v))
  unfolding path
  path_go k v e = rw (ne_eqb (level v) s e)

-- the last of a list, and d where it is empty
abbrev pub last_of : ℕ → List ℕ → ℕ
last_of d [] = d
last_of d (x ∷ xs) = last_of x xs

-- vs is a path at the strength s: each field has this strength, each further field is another output of the setter of the field before it,
-- and the level of the last field's setter is s, that of the others below s
pub data Chain (level others str : ℕ → ℕ) (s : ℕ) : List ℕ → Type 0 where
  last : {v : ℕ} → v < 64 → str v ≡ s → level v ≡ s → Chain level others str s (v ∷ [])
  next : {v u : ℕ} {vs : List ℕ} → v < 64 → str v ≡ s → level v < s → member (others v) u ≡ true → Chain level others str s (u ∷ vs)
      → Chain level others str s (v ∷ u ∷ vs)

module _ {level others str : ℕ → ℕ} {s : ℕ} where
  -- the last field's setter has the level s
  pub chain_last : {vs : List ℕ} → Chain level others str s vs → (d : ℕ) → level (last_of d vs) ≡ s
  chain_last (last l e h) d = h
  chain_last (next {v = v} l e h f c) d = chain_last c v

  pub chain_fields : {vs : List ℕ} → Chain level others str s vs → All (λ v. v < 64) vs
  chain_fields (last l e h) = (l, tt)
  chain_fields (next l e h f c) = (l, chain_fields c)

  -- a closed set that has the first field has all
  pub chain_closed : (P : ℕ → Type 0) → ((v u : ℕ) → P v → u < 64 → member (others v) u ≡ true → P u)
      → {v : ℕ} {vs : List ℕ} → Chain level others str s (v ∷ vs) → P v → All P (v ∷ vs)
  chain_closed P closed (last l e h) p = (p, tt)
  chain_closed P closed (next {v = v} {u = u} l e h f c) p = (p, chain_closed P closed c (closed v u p (chain_fields c).0 f))

  module _ (rank : ℕ → ℕ) (falls : Falls others rank) where
    -- the ranks of the fields after the first are below its rank
    chain_falls : {v : ℕ} {vs : List ℕ} → Chain level others str s (v ∷ vs) → All (λ u. rank u < rank v) vs
    chain_falls (last l e h) = tt
    chain_falls (next {v = v} {u = u} {vs = vs} l e h f c) =
        let b : rank u < rank v = falls v u l (chain_fields c).0 f in
        (b, all_map (λ w. rank w < rank u) (λ w. rank w < rank v) (λ w q. omega arith) vs (chain_falls c))

    pub chain_distinct : {vs : List ℕ} → Chain level others str s vs → Distinct vs
    chain_distinct (last l e h) = (tt, tt)
    chain_distinct (next {v = v} {u = u} {vs = vs} l e h f c) =
        (all_map (λ w. rank w < rank v) (λ w. v ≢ w) (λ w q d. omega (arith, ap rank d)) (u ∷ vs) (chain_falls (next l e h f c)), chain_distinct c)

-- ---- the path at a strength

module _ (level others rank : ℕ → ℕ) (falls : Falls others rank) (n : ℕ) where
  -- from a field of strength s whose setter's level is another, the path goes on to another output of this setter at the strength s
  pub path_onto : (s v : ℕ) → v < 64 → rank v < n → strength level others n v ≡ s → level v ≢ s
      → (level v < s) × Tie (strength level others n) s (others v) (lowest_at (strength level others n) s (others v))
  path_onto s v l r e h =
      let m = greatest (member (others v)) (strength level others n) 64 in
      let t : strength level others n v ≡ max (level v) m = strength_fixed level others rank falls n v l r in
      let (u, lu, eu, su) = greatest_found (member (others v)) (strength level others n) 64 (omega arith) in
      (omega arith, lowest_at_found (strength level others n) s (others v) u (record { field = lu; is_in = eu; strong = omega arith }))

  -- with fuel above the rank it is a chain
  pub path_chain : (s k v : ℕ) → v < 64 → rank v < n → rank v < k → strength level others n v ≡ s
      → Chain level others (strength level others n) s (path level others (strength level others n) s k v)
  path_chain s zero v l r q e = absurd (not-suc-le-zero q)
  path_chain s (suc k) v l r q e = go (ℕ_discrete (level v) s) (path_chain s k)
    where
      go : Dec (level v ≡ s)
          → ((u : ℕ) → u < 64 → rank u < n → rank u < k → strength level others n u ≡ s
          → Chain level others (strength level others n) s (path level others (strength level others n) s k u))
          → Chain level others (strength level others n) s (path level others (strength level others n) s (suc k) v)
      go (yes d) ih = rw (path_stop level others (strength level others n) s k v d) (last l e d)
      go (no d) ih =
          let u = lowest_at (strength level others n) s (others v) in
          let (h, T) = path_onto s v l r e d in
          let f : rank u < rank v = falls v u l T.field T.is_in in
          let (vs, w) = path_starts level others (strength level others n) s k u (omega arith) in
          rw (path_go level others (strength level others n) s k v d, w)
          (next l e h T.is_in (rw w at (ih u T.field (omega arith) (omega arith) T.strong)))

-- the reversible path from v
pub record Reversible (level others : ℕ → ℕ) (n v : ℕ) (vs : List ℕ) : Type 0 where
  pub chain : Chain level others (strength level others n) (strength level others n v) vs
  pub rest : List ℕ
  pub starts : vs ≡ v ∷ rest
  pub ends : level (last_of v vs) ≡ strength level others n v
  pub inside : All (λ u. u < n) vs
  pub short : length vs ≤ n
  pub distinct : Distinct vs

pub path_reversible : (level others rank : ℕ → ℕ) → Falls others rank → (n : ℕ) → n ≤ 64
    → ((v u : ℕ) → v < n → u < 64 → member (others v) u ≡ true → u < n) → (v : ℕ) → v < n → rank v < n
    → Reversible level others n v (path level others (strength level others n) (strength level others n v) n v)
path_reversible level others rank falls n few closed v l r =
    let s = strength level others n v in
    let (vs, w) = path_starts level others (strength level others n) s n v (omega arith) in
    let c = path_chain level others rank falls n s n v (omega arith) r r refl in
    whole (path level others (strength level others n) s n v) vs w c
  where
    whole : (p vs : List ℕ) → p ≡ v ∷ vs → Chain level others (strength level others n) (strength level others n v) p → Reversible level others n v p
    whole p vs w c =
        let c' : Chain level others (strength level others n) (strength level others n v) (v ∷ vs) = rw w at c in
        let inside : All (λ u. u < n) p = rw w (chain_closed (λ u. u < n) closed c' l) in
        record {
          chain = c;
          rest = vs;
          starts = w;
          ends = chain_last c v;
          inside = inside;
          short = below_length n p inside (chain_distinct rank falls c);
          distinct = chain_distinct rank falls c;
        }
