-- Postings: the places that weigh something, each with the running weight.
use Rattle.std.specs.Prelude.{ℕ, zero, suc, ◌==◌, if◌then◌else◌, List, [], ◌∷◌, ◌++◌}
use Rattle.ordup_objects.specs.Sums.{sum_from}

-- the places from 1 to n with a weight above 0, each with the weight of the span from 0 to it, by what the update after the first j
-- weighs
abbrev pub postings_of : (ℕ → ℕ) → ℕ → List (ℕ × ℕ)
postings_of weight zero = []
postings_of weight (suc n) =
    if weight n == 0 then postings_of weight n else postings_of weight n ++ (suc n, sum_from weight 0 (suc n)) ∷ []

-- postings with those of one place more, by its weight and the running weight up to it
abbrev pub posted : List (ℕ × ℕ) → ℕ → ℕ → ℕ → List (ℕ × ℕ)
posted postings place weight running = if weight == 0 then postings else postings ++ (place, running) ∷ []
