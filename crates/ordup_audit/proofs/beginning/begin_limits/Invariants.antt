use Rattle.std.proofs.Common.{◌≡◌, ◌-◌, ◌≤◌, length, take}
use Rattle.ordup_limits.specs.Entries.{latest, HoldFrom}
use Rattle.ordup_limits.specs.Ledgers.{StandsFor}
use Rattle.ordup_audit.proofs.beginning.begin_limits.Given as goal

-- the entries so far hold from the place or before, and the last of each scope are the ledger's limits, which stands where it stood
abbrev pub invariant-loop-count : goal.invariant-loop-count
invariant-loop-count g l = record {
  more : l.begun ≤ l.count;
  upto : HoldFrom l.place (take l.count l.entries);
  limits : l.ledger.limits ≡ latest (take l.count l.entries);
  places : (l.ledger.reported ≡ l.fn.ledger.reported) × (l.ledger.extended ≡ l.fn.ledger.extended);
  stands : StandsFor l.ledger l.log l.groups;
}

abbrev pub decreases-loop-count : goal.decreases-loop-count
decreases-loop-count g l = length l.entries - l.count
