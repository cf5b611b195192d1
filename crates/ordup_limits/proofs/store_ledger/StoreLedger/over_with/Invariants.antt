use Rattle.std.proofs.Common.{◌≡◌, ◌≤◌, ◌<◌, ℕ}
use Rattle.std.specs.Prelude.{slice_index}
use Rattle.std.specs.Int.{bit_at}
use Rattle.ordup_limits.specs.StoreLedgers.{AreOver, StoreStandsFor}
use Rattle.ordup_limits.proofs.GroupBitLemmas.{counts_beside}
use Rattle.ordup_limits.proofs.store_ledger.StoreLedger.over_with.Given as goal

-- the sites that are over a limit on the object or on a group whose bit is taken
abbrev pub invariant-loop-rest : goal.invariant-loop-rest
invariant-loop-rest g l = record {
  rest : l.self ≡ record l.fn.self { kept = l.self.kept };
  stands : StoreStandsFor l.self l.log l.groups;
  over : AreOver l.log l.groups l.fn.self.added.place l.fn.self.sites (counts_beside l.groups l.fn.object l.rest) l.over;
  bits : (i : ℕ) → i < 64 → bit_at l.rest i ≤ bit_at (slice_index l.fn.self.masks l.fn.object) i;
}

abbrev pub decreases-loop-rest : goal.decreases-loop-rest
decreases-loop-rest g l = l.rest
