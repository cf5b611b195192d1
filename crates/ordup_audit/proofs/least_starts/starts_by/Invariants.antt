use Rattle.std.proofs.Common.{◌+◌, ◌≤◌, take, vec_capacity}
use Rattle.ordup_limits.specs.Entries.{latest}
use Rattle.ordup_limits.specs.Limits.{within}
use Rattle.ordup_audit.specs.Records.{history_of, is_within}
use Rattle.ordup_audit.specs.Beginning.{HaveBegun}
use Rattle.ordup_limits.specs.Ledgers.{StandsAt}
use Rattle.ordup_audit.specs.LeastStarts.{AreLeastStarts, PassesBefore}
use Rattle.ordup_audit.proofs.least_starts.starts_by.Given as goal

-- the starts of the places so far, with spare capacity for the others; how many limits have begun; and a ledger of these at the
-- span from the last of the starts
abbrev pub invariant-loop-index : goal.invariant-loop-index
invariant-loop-index g l = record {
  spare : l.decided + 1 ≤ vec_capacity l.starts;
  starts : AreLeastStarts (is_within l.audited) (l.index + 1) l.starts.items;
  begun : HaveBegun l.index l.audited.limits l.begun;
  before : PassesBefore (within (history_of l.audited) l.audited.groups (latest (take l.begun l.audited.limits))) l.start l.index;
  stands : StandsAt (history_of l.audited) l.audited.groups (latest (take l.begun l.audited.limits)) l.start l.index l.ledger;
}
