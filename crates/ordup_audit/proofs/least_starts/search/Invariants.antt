use Rattle.std.proofs.Common.{◌≡◌, ◌-◌, ◌≤◌, true}
use Rattle.ordup_limits.specs.Ledgers.{StandsFor}
use Rattle.ordup_limits.specs.Limits.{within}
use Rattle.ordup_audit.specs.LeastStarts.{PassesBefore}
use Rattle.ordup_audit.proofs.least_starts.search.Given as goal

-- the span from the higher place passes no limit, and each that begins before the lower one passes one; the ledger is of the same
-- limits
abbrev pub invariant-loop-low : goal.invariant-loop-low
invariant-loop-low g l = record {
  order : l.low ≤ l.high;
  last : l.high ≤ l.to;
  before : PassesBefore (within l.log l.groups l.fn.ledger.limits) l.low l.to;
  here : within l.log l.groups l.fn.ledger.limits l.high l.to ≡ true;
  same : l.ledger.limits ≡ l.fn.ledger.limits;
  stands : StandsFor l.ledger l.log l.groups;
}

abbrev pub decreases-loop-low : goal.decreases-loop-low
decreases-loop-low g l = l.high - l.low
