-- The tally: "lines, accepted, refused, last refusal number (00 if none)".
use Rattle.std.specs.Prelude.{ℕ, ◌+◌, ◌/◌, ◌%◌, min, cond, List, [], ◌∷◌, ◌++◌, eqb, ltb}
use Rattle.tally.specs.declared.Tally.{Tally}

-- the greatest count, and the greatest number of three bytes
abbrev pub cap : ℕ
cap = 16777215

-- one more; "A count that is lent at 16,777,215 or more stays unchanged"
unfoldable pub more : ℕ → ℕ
more n = cond (ltb n cap) (n + 1) n

-- a line was answered: refused with a number, or accepted, where the number is 0
unfoldable pub tallied : Tally → ℕ → Tally
tallied t refusal =
    cond (eqb refusal 0)
    (record { lines = more t.lines; accepted = more t.accepted; refused = t.refused; last = t.last })
    (record { lines = more t.lines; accepted = t.accepted; refused = more t.refused; last = refusal })

abbrev pub no_tally : Tally
no_tally = record { lines = 0; accepted = 0; refused = 0; last = 0 }

-- a count in "three bytes each, most significant first", at most the greatest count
unfoldable pub three_bytes : ℕ → List ℕ
three_bytes n =
    let m = min n cap in
    m / 65536 ∷ m / 256 % 256 ∷ m % 256 ∷ []

-- "the tally: EE, lines, accepted, refused (three bytes each ..), last refusal (one byte)"
unfoldable pub tally_bytes : Tally → List ℕ
tally_bytes t = 0xEE ∷ three_bytes t.lines ++ three_bytes t.accepted ++ three_bytes t.refused ++ (t.last ∷ [])
