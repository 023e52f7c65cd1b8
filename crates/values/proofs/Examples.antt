-- Worked cases of the definitions.
use mathlib.Core.Path.{◌≡◌, refl}
use mathlib.Core.List.{[], ◌∷◌}
use lib.IntN.{pos, negsuc}
use Rattle.values.specs.Limits.{limited}
use Rattle.values.specs.Ratios.{rounded, scaled}

-- 5 / 2 is 3 and −5 / 2 is −3; −1 / 3 is 0
half : scaled (pos 5) 1 2 ≡ pos 3
unfolding scaled rounded
half = refl

half_below : scaled (negsuc 4) 1 2 ≡ negsuc 2
unfolding scaled rounded
half_below = refl

third : scaled (negsuc 0) 1 3 ≡ pos 0
unfolding scaled rounded
third = refl

-- the least value times 1 / 1 is itself; times 65,535 / 65,534 it is outside the limits
least_itself : limited (scaled (negsuc 2147483647) 1 1) ≡ negsuc 2147483647 ∷ []
unfolding limited scaled rounded
least_itself = refl

least_more : limited (scaled (negsuc 2147483647) 65535 65534) ≡ []
unfolding limited scaled rounded
least_more = refl
