-- Laws of the kept tables: where nothing is read all are empty, they give the set with all that is downstream, and they stay where no reads differ.
use Prim.Native.Nat.{ℕ, ◌^◌, ◌≤◌, ◌<◌}
use mathlib.Core.Path.{◌≡◌, refl, sym, ap, ◌∙◌}
use mathlib.Core.List.{List}
use native.Mathlib.Omega.{arith}
use lib.ListN.{length, replicate, length-replicate, get_or-replicate}
use Rattle.fieldset.specs.Tables.{at}
use Rattle.fieldset.specs.Fields.{member}
use Rattle.fieldset.proofs.Numbers.{clash}
use Rattle.fieldset.proofs.Fields.{member_empty}
use Rattle.downstream.specs.Downstream.{spread, gathered}
use Rattle.downstream.proofs.Tables.{nothing_downstream, nothing_direct}
use Rattle.downstream.proofs.Gathering.{downstreams_spread}
use Rattle.keeping.specs.Keeping.{Kept, Differ, differing}
use Rattle.keeping.proofs.Changes.{differing_differ, differ_none}

-- where nothing is read
kept_unread : {reads readers down : List ℕ} → length reads ≡ 64 → ((f : ℕ) → f < 64 → at reads f ≡ 0) → readers ≡ replicate 64 0 → down ≡ replicate 64 0
    → (n : ℕ) → n ≤ 64 → Kept n reads readers down
kept_unread {reads} full none er ed n few = record {
  full = full;
  among = record { few = few; inside = λ g f l k e. absurd (clash e (ap (λ x. member x f) (none g (omega arith)) ∙ member_empty f)) };
  readers_are = er ∙ sym (nothing_direct (at reads) n few (λ f l. none f (omega arith)));
  down_are = ed ∙ sym (nothing_downstream (at reads) n few (λ f l. none f (omega arith)));
}

pub kept_nothing : (n : ℕ) → n ≤ 64 → Kept n (replicate 64 0) (replicate 64 0) (replicate 64 0)
kept_nothing = kept_unread (length-replicate {A = ℕ} 64 0) (λ f l. get_or-replicate {A = ℕ} 64 f 0 0 l) refl refl

-- the tables of no fields are those of any number of fields that read nothing
pub kept_opened : {reads readers down : List ℕ} → Kept 0 reads readers down → ((f : ℕ) → f < 64 → at reads f ≡ 0) → (n : ℕ) → n ≤ 64 → Kept n reads readers down
kept_opened {reads} k none =
    kept_unread k.full none (k.readers_are ∙ nothing_direct (at reads) 0 (omega arith) (λ f l. absurd (omega arith)))
    (k.down_are ∙ nothing_downstream (at reads) 0 (omega arith) (λ f l. absurd (omega arith)))

pub kept_spread : {n : ℕ} {reads readers down : List ℕ} → Kept n reads readers down → (set : ℕ) → set < 2 ^ 64
    → gathered (at down) set ≡ spread (at reads) n set
kept_spread {n} {reads} {down = down} k = downstreams_spread (at reads) n k.among.few down k.down_are

-- no reads differ
pub kept_still : {n stale changed : ℕ} {shown reads readers down : List ℕ} → Kept n shown readers down → Differ stale shown reads
    → changed ≡ differing (at shown) (at reads) stale → length reads ≡ 64 → changed ≡ 0 → (shown ≡ reads) × Kept n reads readers down
kept_still k d e full z = let same = differ_none (differing_differ d e) k.full full z in (same, rw same at k)
