-- Which sites a settlement forces, and for which it waits.
use Rattle.std.specs.Prelude.{ℕ, zero, suc, ◌-◌, ◌&&◌, not, if◌then◌else◌, nat_lt}
use Rattle.std.specs.Prelude.{Bool, List, [], ◌∷◌, ◌++◌, length, slice_index_or}

-- the numbers below n for which the test passes, in order
abbrev pub where_below : (ℕ → Bool) → ℕ → List ℕ
where_below test zero = []
where_below test (suc n) = if test n then where_below test n ++ n ∷ [] else where_below test n

-- what a site had reported at the decision of place k, by what it had reported at each decision
abbrev pub report_at : List ℕ → ℕ → ℕ
report_at reports k = slice_index_or reports (k - 1) 0

-- Below, `within s a b` says whether the span from a to b passes no limit of site s.

-- the sites that the first settlement of place k forces: by what each has reported now, the span to k passes a limit
abbrev pub forced_sites : (ℕ → ℕ → ℕ → Bool) → (ℕ → ℕ) → ℕ → ℕ → List ℕ
forced_sites within now n k = where_below (λ s. not (within s (now s) k)) n

-- site s was forced at place k, by what it had reported then, and has not reported k by now
abbrev pub is_awaited : (ℕ → ℕ → ℕ → Bool) → (ℕ → ℕ) → (ℕ → ℕ) → ℕ → ℕ → Bool
is_awaited within before now k s = not (within s (before s) k) && nat_lt (now s) k

-- the sites that place k waits for
abbrev pub waiting_sites : (ℕ → ℕ → ℕ → Bool) → (ℕ → ℕ) → (ℕ → ℕ) → ℕ → ℕ → List ℕ
waiting_sites within before now n k = where_below (is_awaited within before now k) n

-- the last of these places, 0 where there is none
abbrev pub last_place : List ℕ → ℕ
last_place places = slice_index_or places (length places - 1) 0
