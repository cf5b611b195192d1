use Rattle.std.proofs.Common.{◌≡◌, ◌+◌, length}
use Rattle.std.specs.Prelude.{All}
use Rattle.ordup_cluster.specs.Clusters.{AgreeBelow}
use Rattle.ordup_cluster.proofs.closing.first_mixed.Given as goal

-- the sites so far agree, and each of the others has its initial values
abbrev pub invariant-loop-index : goal.invariant-loop-index
invariant-loop-index l = record {
  spare_values : All (λ v. v ≡ l.primary.log.start) l.spare_values.items;
  count : l.index + length l.spare_values.items ≡ length l.primary.sites;
  agree : AgreeBelow l.index l.primary l.sites.items;
}
