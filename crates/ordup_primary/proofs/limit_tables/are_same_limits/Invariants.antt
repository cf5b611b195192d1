use Rattle.std.proofs.Common.{◌≡◌, ℕ, ◌<◌, get_or}
use Rattle.ordup_limits.specs.Entries.{Entries}
use Rattle.ordup_primary.proofs.limit_tables.are_same_limits.Given as goal

-- the tables so far are the same
abbrev pub invariant-loop-index : goal.invariant-loop-index
invariant-loop-index g l = (k : ℕ) (d : Entries) → k < l.index → get_or l.these k d ≡ get_or l.those k d
