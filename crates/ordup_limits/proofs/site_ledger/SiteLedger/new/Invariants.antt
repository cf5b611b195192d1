use Rattle.std.proofs.Common.{◌≡◌, ◌≤◌, ℕ, take, length}
use Rattle.ordup_objects.specs.Serial.{History}
use Rattle.ordup_objects.specs.Sizes.{most_objects}
use Rattle.ordup_log.specs.Groups.{GroupList}
use Rattle.ordup_limits.specs.Entries.{latest, AreEntriesKnown}
use Rattle.ordup_limits.specs.StoreLedgers.{most_scopes, AreWeights, HaveAmounts}
use Rattle.ordup_limits.proofs.site_ledger.SiteLedger.new.Given as goal

-- nothing is reported, and the entries so far are put down
abbrev pub invariant-loop-entry : goal.invariant-loop-entry
invariant-loop-entry g l = record {
  place : l.site.reported.place ≡ 0;
  weights : (h : History) (gs : GroupList) → AreWeights l.site.reported h gs;
  count : length l.site.amounts ≡ most_scopes;
  amounts : (n : ℕ) → n ≤ most_objects → AreEntriesKnown n l.groups l.limits
      → HaveAmounts n l.groups (latest (take l.entry-index l.limits)) l.site.amounts;
}
