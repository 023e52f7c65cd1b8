-- The tally at its limits: what no run reaches, since a text has too few lines for it, is shown of the definitions by computation.
use mathlib.Core.Path.{◌≡◌, refl}
use mathlib.Core.List.{[], ◌∷◌, map}
use Rattle.tally.specs.Tallies.{more, tallied, three_bytes, tally_bytes}

-- "A count that is lent at 16,777,215 or more stays unchanged"
counts_at_the_limit : map more (0 ∷ 0xFFFFFE ∷ 0xFFFFFF ∷ 0x1000000 ∷ []) ≡ 1 ∷ 0xFFFFFF ∷ 0xFFFFFF ∷ 0x1000000 ∷ []
unfolding more
counts_at_the_limit = refl

-- "three bytes each, most significant first"; a count above the limit is written as the limit
bytes_at_the_limit : map three_bytes (0x010203 ∷ 0xFF0000 ∷ 0xFFFFFF ∷ 0x1000000 ∷ [])
    ≡ (0x01 ∷ 0x02 ∷ 0x03 ∷ []) ∷ (0xFF ∷ 0x00 ∷ 0x00 ∷ []) ∷ (0xFF ∷ 0xFF ∷ 0xFF ∷ []) ∷ (0xFF ∷ 0xFF ∷ 0xFF ∷ []) ∷ []
unfolding three_bytes
bytes_at_the_limit = refl

-- a refused line, where lines and refused stand at their limits, and an accepted one
tallies_at_the_limit : (tally_bytes (tallied (record { lines = 0xFFFFFF; accepted = 0x020000; refused = 0xFFFFFF; last = 0 }) 11)
    ≡ 0xEE ∷ 0xFF ∷ 0xFF ∷ 0xFF ∷ 0x02 ∷ 0x00 ∷ 0x00 ∷ 0xFF ∷ 0xFF ∷ 0xFF ∷ 0x0B ∷ [])
    × (tally_bytes (tallied (record { lines = 0xFFFFFE; accepted = 0xFFFF; refused = 0xFF; last = 9 }) 0)
    ≡ 0xEE ∷ 0xFF ∷ 0xFF ∷ 0xFF ∷ 0x01 ∷ 0x00 ∷ 0x00 ∷ 0x00 ∷ 0x00 ∷ 0xFF ∷ 0x09 ∷ [])
unfolding more tallied three_bytes tally_bytes
tallies_at_the_limit = (refl, refl)
