-- Limits that begin to hold.
use Rattle.std.specs.Prelude.{ℕ, ◌<◌, All, drop, take}
use Rattle.ordup_limits.specs.Entries.{Entries, HoldFrom}

-- the first n of the entries hold from place k or before, and the others from later
pub record HaveBegun (k : ℕ) (entries : Entries) (n : ℕ) : Type 0 where
  pub upto : HoldFrom k (take n entries)
  pub later : All (λ e. k < e.place) (drop n entries)
