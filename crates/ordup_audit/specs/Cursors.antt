-- How many of the places of a list are passed.
use Rattle.std.specs.Prelude.{ℕ, ◌<◌, ◌≤◌, List, length}
use Rattle.std.specs.List.Sorted.{IsPartitionPoint}

-- the first n of the places are up to k, and the others are later
pub record AreUpto (k : ℕ) (places : List ℕ) (n : ℕ) : Type 0 where
  pub few : n ≤ length places
  pub parted : IsPartitionPoint (λ p. p ≤ k) (λ p. k < p) places n
