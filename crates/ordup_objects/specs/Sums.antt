-- Sums.
use Rattle.std.specs.Prelude.{ℕ, zero, suc, ◌+◌}

-- f at n numbers from a on, added up
abbrev pub sum_from : (ℕ → ℕ) → ℕ → ℕ → ℕ
sum_from f a zero = 0
sum_from f a (suc n) = sum_from f a n + f (a + n)
