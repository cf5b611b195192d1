use Rattle.ordup_audit.proofs.Common.{get_or, in_range, map, result_at, true}
use Rattle.ordup_audit.specs.Passing.{PassesBelow}
use Rattle.ordup_audit.proofs.legality.first_out_of_range.Given as goal

-- the results so far are in range
abbrev pub invariant-loop-index : goal.invariant-loop-index
invariant-loop-index g l =
    PassesBelow (λ p. get_or (map (λ c. in_range (result_at l.values c)) l.changes) p true) l.index
