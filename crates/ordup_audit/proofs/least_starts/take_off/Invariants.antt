use Rattle.std.proofs.Common.{◌-◌}
use Rattle.ordup_limits.specs.Limits.{within}
use Rattle.ordup_limits.specs.Ledgers.{StandsAt}
use Rattle.ordup_audit.specs.LeastStarts.{PassesBefore}
use Rattle.ordup_audit.proofs.least_starts.take_off.Given as goal

-- the ledger is at the span from the start, and each span that begins earlier passes a limit
abbrev pub invariant-loop-start : goal.invariant-loop-start
invariant-loop-start g l = record {
  before : PassesBefore (within l.log l.groups l.fn.ledger.limits) l.start l.to;
  stands : StandsAt l.log l.groups l.fn.ledger.limits l.start l.to l.ledger;
}

abbrev pub decreases-loop-start : goal.decreases-loop-start
decreases-loop-start g l = l.to - l.start
