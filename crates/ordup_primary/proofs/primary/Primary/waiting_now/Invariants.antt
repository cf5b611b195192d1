use Rattle.std.proofs.Common.{◌≡◌, ◌≤◌, length}
use Rattle.ordup_primary.specs.Settling.{where_below}
use Rattle.ordup_primary.specs.Primaries.{waits_for}
use Rattle.ordup_primary.proofs.primary.Primary.waiting_now.Given as goal

-- the sites so far for which the head waits
abbrev pub invariant-loop-index : goal.invariant-loop-index
invariant-loop-index g l = record {
  few : length l.waiting ≤ l.index;
  sites : l.waiting ≡ where_below (waits_for l.self) l.index;
}
