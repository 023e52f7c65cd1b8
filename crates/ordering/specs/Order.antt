-- The plan, and loops. `reads f` is the set of the fields that the setter of field f reads, and n the number of fields.
use Rattle.std.specs.Prelude.{ℕ, zero, suc, Bool, true, false, not, ◌&&◌, List, [], ◌∷◌, eqb, ltb, length}
use Rattle.fieldset.specs.Numbers.{lowest}
use Rattle.fieldset.specs.Fields.{member, with, within}

-- "next comes always the lowest-numbered unlisted field whose setter's read fields are all listed"; n where there is none
unfoldable pub next : (ℕ → ℕ) → ℕ → ℕ → ℕ
next reads n listed = lowest (λ f. not (member listed f) && within (reads f) listed) n n

-- at most k further fields in this order
unfoldable pub following : (ℕ → ℕ) → ℕ → ℕ → ℕ → List ℕ
following reads n zero listed = []
following reads n (suc k) listed =
    let f = next reads n listed in
    elim (ltb f n) [ true ↦ f ∷ following reads n k (with listed f) | false ↦ [] ]

-- "List all fields once". (Document 01's plan: the evaluation order.)
unfoldable pub order : (ℕ → ℕ) → ℕ → List ℕ
order reads n = following reads n n 0

-- there is a loop (a cycle of reads) where the plan cannot list all fields
unfoldable pub has_loop : (ℕ → ℕ) → ℕ → Bool
has_loop reads n = not (eqb (length (order reads n)) n)
