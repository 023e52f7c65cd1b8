-- What lies downstream. `reads f` is the set of the fields that the setter of field f reads, and n the number of fields.
use Rattle.std.specs.Prelude.{ℕ, zero, suc, ◌&&◌, ◌||◌, List}
use Rattle.fieldset.specs.Numbers.{any}
use Rattle.fieldset.specs.Tables.{tabulate}
use Rattle.fieldset.specs.Fields.{member, set_of, union, only, meets}

-- the fields whose setter reads a field of the set
unfoldable pub readers : (ℕ → ℕ) → ℕ → ℕ → ℕ
readers reads n set = set_of (λ g. meets (reads g) set) n

-- the set, and what is at most k reads downstream of it
unfoldable pub spreading : (ℕ → ℕ) → ℕ → ℕ → ℕ → ℕ
spreading reads n zero set = set
spreading reads n (suc k) set = let near = spreading reads n k set in union near (readers reads n near)

-- "fields whose setter changed, and all fields downstream of these" (document 02, request 6): no field is more than n reads away
unfoldable pub spread : (ℕ → ℕ) → ℕ → ℕ → ℕ
spread reads n set = spreading reads n n set

-- the fields that read f, "directly or through others"
unfoldable pub downstream : (ℕ → ℕ) → ℕ → ℕ → ℕ
downstream reads n f = spread reads n (readers reads n (only f))

-- every field's downstream set, as a table of 64 entries
unfoldable pub downstreams : (ℕ → ℕ) → ℕ → List ℕ
downstreams reads n = tabulate (downstream reads n) 64

-- a set, and the sets that a table has for its fields
unfoldable pub gathered : (ℕ → ℕ) → ℕ → ℕ
gathered down set = set_of (λ g. member set g || any (λ f. member set f && member (down f) g) 64) 64

-- for each field those that read it directly, as a table of 64 entries
unfoldable pub directs : (ℕ → ℕ) → ℕ → List ℕ
directs reads n = tabulate (λ f. readers reads n (only f)) 64
