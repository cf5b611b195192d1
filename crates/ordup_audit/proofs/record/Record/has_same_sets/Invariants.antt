use Rattle.ordup_audit.proofs.Common.{◌<◌, ◌≡◌, Change, get_or, List, ℕ}
use Rattle.ordup_audit.proofs.record.Record.has_same_sets.Given as goal

-- the updates so far are the same
abbrev pub invariant-loop-index : goal.invariant-loop-index
invariant-loop-index g l = (k : ℕ) (d : List Change) → k < l.index → get_or l.self.sets k d ≡ get_or l.other.sets k d
