use Rattle.std.proofs.Common.{◌≡◌, ◌<◌, ℕ, [], length, get_or}
use Rattle.ordup_limits.specs.StoreLedgers.{IsFirstSite, SiteLedgerState}
use Rattle.ordup_limits.proofs.store_ledger.add_sites.Given as goal

-- the sites so far are there
abbrev pub invariant-loop-table : goal.invariant-loop-table
invariant-loop-table g l = record {
  count : length l.sites.items ≡ l.table-index;
  each : (s : ℕ) (d : SiteLedgerState) → s < l.table-index → IsFirstSite l.groups (get_or l.limits s []) (get_or l.sites.items s d);
}
