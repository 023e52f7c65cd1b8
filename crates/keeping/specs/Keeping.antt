-- Tables that are kept from one state to the next, and what can differ in them where the reads of some fields change.
use Rattle.std.specs.Prelude.{ℕ, ◌≤◌, ◌<◌, ◌≡◌, Bool, true, false, not, ◌&&◌, ◌||◌, List, eqb, length}
use Rattle.fieldset.specs.Numbers.{any}
use Rattle.fieldset.specs.Tables.{at}
use Rattle.fieldset.specs.Fields.{member, set_of, meets, filter, Within}
use Rattle.ordering.specs.Walks.{Among}
use Rattle.downstream.specs.Downstream.{downstream, downstreams, directs}

-- the set, and the fields that have a field of it downstream
unfoldable pub upstream : (ℕ → ℕ) → ℕ → ℕ → ℕ
upstream reads n set = set_of (λ f. member set f || meets (downstream reads n f) set) 64

-- some field of the set is upstream of what it reads
unfoldable pub loops_through : (ℕ → ℕ) → ℕ → ℕ → Bool
loops_through reads n set = any (λ c. member set c && member (upstream reads n (reads c)) c) 64

-- the tables that are kept from one state to the next: for each field the fields that its setter reads, those that read it directly, and its
-- downstream set
pub record Kept (n : ℕ) (reads readers down : List ℕ) : Type 0 where
  pub full : length reads ≡ 64
  pub among : Among reads n
  pub readers_are : readers ≡ directs (at reads) n
  pub down_are : down ≡ downstreams (at reads) n

-- two tables that differ at most in the entries of a set of fields
pub record Differ (stale : ℕ) (old new : List ℕ) : Type 0 where
  pub same : (f : ℕ) → f < 64 → member stale f ≡ false → at old f ≡ at new f

-- ---- what the steps need and ensure

-- the fields of a set whose entries differ
abbrev pub differing : (ℕ → ℕ) → (ℕ → ℕ) → ℕ → ℕ
differing old new stale = filter (λ f. not (eqb (old f) (new f))) stale

-- downstream sets that are right but for the entries of a set
pub record Right (reads : ℕ → ℕ) (n stale : ℕ) (down : List ℕ) : Type 0 where
  pub long : length down ≡ 64
  pub right : (f : ℕ) → f < 64 → member stale f ≡ false → at down f ≡ downstream reads n f

-- what a pass leaves of a set: none of it is new, and all of it stays only where each of its fields is read by one of it
pub record Repaired (reads : ℕ → ℕ) (n set left : ℕ) (down : List ℕ) : Type 0 where
  pub is_right : Right reads n left down
  pub inside : Within left set
  pub less : left ≤ set
  pub stuck : left ≡ set → (f : ℕ) → f < 64 → member set f ≡ true → (g : ℕ) × (g < n) × (member (reads g) f ≡ true) × (member set g ≡ true)
