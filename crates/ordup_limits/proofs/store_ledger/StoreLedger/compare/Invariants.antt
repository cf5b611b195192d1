use Rattle.std.proofs.Common.{◌≡◌, ◌≤◌, ◌<◌, ℕ, get_or, true}
use Rattle.std.specs.Prelude.{◌==◌, nat_lt}
use Rattle.std.specs.Int.{bit_at}
use Rattle.ordup_limits.specs.StoreLedgers.{allowed, SiteLedgerState}
use Rattle.ordup_limits.proofs.store_ledger.StoreLedger.compare.Given as goal

-- the bits of the sites so far, and the least of what is allowed to them
abbrev pub invariant-loop-index : goal.invariant-loop-index
invariant-loop-index g l = record {
  over : (s : ℕ) (d : SiteLedgerState) → s < l.index
      → (bit_at l.over s == 1) ≡ nat_lt (allowed l.log l.groups (get_or l.site-items s d) l.scope) l.weight;
  there : (s : ℕ) → (bit_at l.over s == 1) ≡ true → s < l.index;
  least : (s : ℕ) (d : SiteLedgerState) → s < l.index → l.least ≤ allowed l.log l.groups (get_or l.site-items s d) l.scope;
}
