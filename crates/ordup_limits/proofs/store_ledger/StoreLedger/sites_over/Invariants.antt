use Rattle.std.proofs.Common.{◌≡◌, take}
use Rattle.ordup_objects.specs.Serial.{set_at}
use Rattle.ordup_limits.specs.StoreLedgers.{may_weigh, AreOver, StoreStandsFor}
use Rattle.ordup_limits.proofs.store_ledger.StoreLedger.sites_over.Given as goal

-- the sites that are over a limit on a scope of the changes so far
abbrev pub invariant-loop-change : goal.invariant-loop-change
invariant-loop-change g l = record {
  rest : l.self ≡ record l.fn.self { kept = l.self.kept };
  stands : StoreStandsFor l.self l.log l.groups;
  over : AreOver l.log l.groups l.fn.self.added.place l.fn.self.sites
      (may_weigh l.groups (take l.change-index (set_at l.log l.fn.self.added.place))) l.over;
}
