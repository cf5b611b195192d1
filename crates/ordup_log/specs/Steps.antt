-- Numbers that change at some places only: each place at which one changes, with what it changes to.
use Rattle.std.specs.Prelude.{ℕ, zero, suc, ◌==◌, if◌then◌else◌, nat_le, List, [], ◌∷◌, ◌++◌, fold}

-- the places from 1 to n at which v is not as at the place before, each with v there
abbrev pub steps_of : (ℕ → ℕ) → ℕ → List (ℕ × ℕ)
steps_of v zero = []
steps_of v (suc n) = if v (suc n) == v n then steps_of v n else steps_of v n ++ (suc n, v (suc n)) ∷ []

-- what a number is as of a place: what the last step at or before the place says, and 0 before the first step
abbrev pub as_of : List (ℕ × ℕ) → ℕ → ℕ
as_of steps k = fold (λ v step. if nat_le step.0 k then step.1 else v) 0 steps
