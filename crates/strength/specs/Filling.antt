-- What the functions of this crate ask of their tables and what they leave in them. `levels` and `others` have for each field the level and
-- the other outputs of its setter; n is the number of fields.
use Rattle.std.specs.Prelude.{ℕ, ◌+◌, ◌-◌, ◌≤◌, ◌<◌, ◌≡◌, true, false, List, ◌++◌, length, drop}
use Rattle.fieldset.specs.Tables.{at}
use Rattle.fieldset.specs.Fields.{member, size}
pub use Rattle.fieldset.specs.Fields.{Within}
use Rattle.fieldset.specs.Ranks.{Ranked}
use Rattle.strength.specs.Strength.{greatest, strength, path}

-- n fields whose setters' other outputs are among them, without a loop
pub record Acyclic (others : List ℕ) (n : ℕ) : Type 0 where
  pub few : n ≤ 64
  pub inside : (v u : ℕ) → v < n → u < 64 → member (at others v) u ≡ true → u < n
  pub rank : ℕ → ℕ
  pub ranked : Ranked (at others) 64 n rank

-- the table has the strengths of the known fields, and of what these depend on
pub record Strengths (levels others : List ℕ) (n known : ℕ) (table : List ℕ) : Type 0 where
  pub full : length table ≡ 64
  pub right : (u : ℕ) → u < 64 → member known u ≡ true → at table u ≡ strength (at levels) (at others) n u
  pub closed : (v u : ℕ) → v < 64 → u < 64 → member known v ≡ true → member (at others v) u ≡ true → member known u ≡ true

-- the set has all that its fields depend on
abbrev pub Closed : List ℕ → ℕ → Type 0
Closed others m =
    (v u : ℕ) → v < 64 → u < 64 → member m v ≡ true → member (at others v) u ≡ true → member m u ≡ true

-- what `fill` asks: the table has the strengths of the known fields, at depth 64, and ranks fall from the fields of the set, whose own are
-- below the depth
pub record Fillable (levels others : List ℕ) (known : ℕ) (table : List ℕ) (set depth : ℕ) : Type 0 where
  pub few : depth ≤ 64
  pub rank : ℕ → ℕ
  pub falls : (v u : ℕ) → v < 64 → u < 64 → member (at others v) u ≡ true → rank u < rank v
  pub deep : (u : ℕ) → u < 64 → member set u ≡ true → rank u < depth
  pub strengths : Strengths levels others 64 known table

-- what it leaves: the table has the strengths of the fields of r too. These are known, or of the set, or what these depend on; what stands in
-- the table for the others is as it was. The count that is answered is that of the fields which r has more.
pub record Filled (levels others : List ℕ) (known set top r count : ℕ) (before after : List ℕ) : Type 0 where
  pub is_greatest : top ≡ greatest (member set) (strength (at levels) (at others) 64) 64
  pub strengths : Strengths levels others 64 r after
  pub more : Within known r
  pub has : Within set r
  pub inside : (m : ℕ) → Closed others m → Within known m → Within set m → Within r m
  pub kept : (u : ℕ) → u < 64 → member r u ≡ false → at after u ≡ at before u
  pub counted : size known + count ≡ size r

-- the greatest strength of a set was worked out: the table then has the strengths of the set's fields, and the count that is answered is that of all
-- that it has. Which further fields it has, and what stands in it for the others, is free.
pub record Topped (levels others : List ℕ) (n set top known count : ℕ) (table : List ℕ) : Type 0 where
  pub is_greatest : top ≡ greatest (member set) (strength (at levels) (at others) n) 64
  pub strengths : Strengths levels others n known table
  pub has : Within set known
  pub counted : count ≡ size known

-- the reversible path from v: its fields stand at the start of the buffer, whose rest is as it was; `end` is the position behind the last of them, whose
-- setter has the strength of v as its level
pub record PathFound (levels others : List ℕ) (n v : ℕ) (before after : List ℕ) (end : ℕ) : Type 0 where
  pub fields : List ℕ
  pub is_path : fields ≡ path (at levels) (at others) (strength (at levels) (at others) n) (strength (at levels) (at others) n v) n v
  pub stored : after ≡ fields ++ drop (length fields) before
  pub ended : end ≡ length fields
  pub stops : at levels (at after (end - 1)) ≡ strength (at levels) (at others) n v
