-- What deciding on the reversal of a path asks and answers, over the tables of a panel's setters.
use Rattle.std.specs.Prelude.{ℕ, ◌<◌, ◌≡◌, Bool, true, false, cond, List, [], ◌∷◌, ◌++◌, eqb, ltb, length, take, drop, set}
use Rattle.fieldset.specs.Tables.{at}
use Rattle.fieldset.specs.Fields.{member, set_of, with, without, only, union, below}
use Rattle.strength.specs.Strength.{greatest, strength, lowest_at, path}
use Rattle.strength.specs.Filling.{Acyclic, Strengths, Within}
use Rattle.ordering.specs.Order.{has_loop}
use Rattle.ordering.specs.Walks.{Among}
use Rattle.panel.specs.declared.Standing.{Standing}
use Rattle.panel.specs.declared.Standing.TheVariants.{Waiting, Holding}
use Rattle.panel.specs.declared.Link.{Link}
use Rattle.std.specs.Prelude.{Ok}
use Rattle.panel.specs.declared.Step.{Step}
use Rattle.panel.specs.Commands.{any_of}
use Rattle.panel.specs.Outcomes.{PathOf}
use Rattle.reversal.specs.declared.Verdict.{Verdict}
use Rattle.reversal.specs.declared.Verdict.TheVariants.{Free, Looped, Path}

-- the read fields after a path is reversed, from the covered fields of what sets its first field: what set a field covers what it read and
-- that field
unfoldable pub reversed_reads : List ℕ → ℕ → List ℕ → List ℕ
reversed_reads reads covered [] = reads
reversed_reads reads covered (v ∷ vs) = reversed_reads (set reads v (without covered v)) (with (at reads v) v) vs

-- the set of the fields of a path
unfoldable pub fields_of : List ℕ → ℕ
fields_of vs = set_of (λ f. any_of (eqb f) vs) 64

-- the buffer with the path from the lowest-numbered output of the strength s at its start, and its rest as it was
unfoldable pub with_path : List ℕ → List ℕ → ℕ → ℕ → ℕ → List ℕ → List ℕ
with_path levels others n s outputs buffer =
    let str = strength (at levels) (at others) n in
    let vs = path (at levels) (at others) str s n (lowest_at str s outputs) in
    vs ++ drop (length vs) buffer

-- the buffer after it is seen whether an item of this level and these outputs is blocked, and the path is found for one that is
unfoldable pub resolved_path : List ℕ → List ℕ → ℕ → ℕ → ℕ → List ℕ → List ℕ
resolved_path levels others n level outputs buffer =
    let s = greatest (member outputs) (strength (at levels) (at others) n) 64 in
    cond (ltb level s) (with_path levels others n s outputs buffer) buffer

-- s is the greatest strength of some outputs, whose strengths the table has; the item that has these outputs covers fields of the panel
pub record Undecided (levels others table : List ℕ) (n known s outputs covered : ℕ) (reads path : List ℕ) : Type 0 where
  pub acyclic : Acyclic others n
  pub strengths : Strengths levels others n known table
  pub outputs_known : Within outputs known
  pub some_output : 0 < outputs
  pub outputs_inside : Within outputs (below n)
  pub is_greatest : s ≡ greatest (member outputs) (strength (at levels) (at others) n) 64
  pub among : Among reads n
  pub loopless : has_loop (at reads) n ≡ false
  pub covered_inside : Within covered (below n)
  pub reads_length : length reads ≡ 64
  pub path_length : length path ≡ 64

-- the path from the lowest-numbered output of the strength s stands at the start of the buffer, and it is known whether its reversal has a loop
pub record Found (levels others : List ℕ) (n s outputs covered : ℕ) (reads after : List ℕ) (count : ℕ) (looped : Bool) : Type 0 where
  pub fields : PathOf after count
  pub is_path :
      take count after
      ≡ path (at levels) (at others) (strength (at levels) (at others) n) s n (lowest_at (strength (at levels) (at others) n) s outputs)
  pub is_looped : looped ≡ has_loop (at (reversed_reads reads covered (take count after))) n

-- what is decided for a blocked item
abbrev pub Decided : List ℕ → List ℕ → ℕ → ℕ → ℕ → ℕ → List ℕ → List ℕ → Verdict → Type 0
Decided levels others n s outputs covered reads after Free = ⊥
Decided levels others n s outputs covered reads after Looped = (count : ℕ) × Found levels others n s outputs covered reads after count true
Decided levels others n s outputs covered reads after (Path count set) =
    Found levels others n s outputs covered reads after count false × (set ≡ fields_of (take count after))

-- an item waits that has these outputs and covered fields
pub record Unresolved (others : List ℕ) (n outputs covered : ℕ) (reads path : List ℕ) : Type 0 where
  pub acyclic : Acyclic others n
  pub some_output : 0 < outputs
  pub outputs_inside : Within outputs (below n)
  pub among : Among reads n
  pub loopless : has_loop (at reads) n ≡ false
  pub covered_inside : Within covered (below n)
  pub reads_length : length reads ≡ 64
  pub path_length : length path ≡ 64

-- whether it is blocked, and what is then decided
abbrev pub Resolved : List ℕ → List ℕ → ℕ → ℕ → ℕ → ℕ → List ℕ → List ℕ → Verdict → Type 0
Resolved levels others n level outputs covered reads after Free =
    (ltb level (greatest (member outputs) (strength (at levels) (at others) n) 64) ≡ false) × (length after ≡ 64)
Resolved levels others n level outputs covered reads after Looped =
    let s = greatest (member outputs) (strength (at levels) (at others) n) 64 in
    (ltb level s ≡ true) × Decided levels others n s outputs covered reads after Looped
Resolved levels others n level outputs covered reads after (Path count set) =
    let s = greatest (member outputs) (strength (at levels) (at others) n) 64 in
    (ltb level s ≡ true) × Decided levels others n s outputs covered reads after (Path count set)

-- the set of the field that an item of this standing holds
abbrev pub held_field : Standing → ℕ
held_field Waiting = 0
held_field (Holding v) = only v

-- it is one of 64 fields
abbrev pub HeldField : Standing → Type 0
HeldField Waiting = Unit {0}
HeldField (Holding v) = v < 64

-- what a verdict gives a step: what sets the path's first field, how many fields the path has, and these
abbrev pub setter_by : Verdict → ℕ → ℕ
setter_by Free c = 128
setter_by Looped c = 128
setter_by (Path count set) c = c

abbrev pub count_by : Verdict → ℕ
count_by Free = 0
count_by Looped = 0
count_by (Path count set) = count

abbrev pub fields_by : Verdict → ℕ
fields_by Free = 0
fields_by Looped = 0
fields_by (Path count set) = set

-- the step that leaves so many fields, these places and this link, gives free what a link of this standing held, and reverses the path for the
-- item of the number c
abbrev pub step_of : Verdict → ℕ → List ℕ → Link → Standing → ℕ → Step
step_of verdict n place link held c =
    let changed = union (fields_by verdict) (held_field held) in
    record {
      reply = Ok 0;
      size = n;
      place = place;
      link = link;
      freed = held;
      setter = setter_by verdict c;
      count = count_by verdict;
      changed = changed;
      revalued = 0;
    }
