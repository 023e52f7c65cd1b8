-- The numbers below n that pass a test: how many there are, whether there is one, and the lowest.
use Rattle.std.specs.Prelude.{ℕ, zero, suc, Bool, false, ◌||◌, cond}

-- how many numbers below n pass the test
unfoldable pub count : (ℕ → Bool) → ℕ → ℕ
count p zero = 0
count p (suc n) = cond (p n) (suc (count p n)) (count p n)

-- some number below n passes the test
unfoldable pub any : (ℕ → Bool) → ℕ → Bool
any p zero = false
any p (suc n) = any p n || p n

-- the lowest number below n that passes the test, and d where none does
unfoldable pub lowest : (ℕ → Bool) → ℕ → ℕ → ℕ
lowest p zero d = d
lowest p (suc n) d = lowest p n (cond (p n) n d)
