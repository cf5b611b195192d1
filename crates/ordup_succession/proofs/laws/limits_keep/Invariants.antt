use Rattle.std.proofs.Common.{ℕ, ◌<◌, get_or, []}
use Rattle.ordup_limits.specs.Entries.{AreEntries}
use Rattle.ordup_succession.proofs.laws.limits_keep.Given as goal

-- those of the sites so far
abbrev pub invariant-loop-index : goal.invariant-loop-index
invariant-loop-index g l = (k : ℕ) → k < l.index → AreEntries (get_or l.setup.limits k [])
