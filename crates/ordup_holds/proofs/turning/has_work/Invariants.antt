use Rattle.std.proofs.Common.{ℕ, ◌<◌, ◌≤◌}
use Rattle.ordup_primary.specs.Primaries.{progress_at}
use Rattle.ordup_holds.proofs.turning.has_work.Given as goal

-- all updates were sent to the sites so far
abbrev pub invariant-loop-index : goal.invariant-loop-index
invariant-loop-index l = (s : ℕ) → s < l.index → l.last ≤ (progress_at l.primary s).sent
