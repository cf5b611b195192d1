use Rattle.std.proofs.Common.{◌≡◌, ◌≤◌, length}
use Rattle.std.specs.Prelude.{◌==◌}
use Rattle.std.specs.Int.{bit_at}
use Rattle.ordup_primary.specs.Settling.{where_below}
use Rattle.ordup_primary.proofs.site_mask.sites_among.Given as goal

-- the sites so far
abbrev pub invariant-loop-index : goal.invariant-loop-index
invariant-loop-index l = record {
  few : length l.sites ≤ l.index;
  sites : l.sites ≡ where_below (λ s. bit_at l.mask s == 1) l.index;
}
