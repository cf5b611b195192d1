use Rattle.std.proofs.Common.{◌≡◌}
use Rattle.ordup_cluster.proofs.cluster.Cluster.read_when_level.Given as goal

-- the session stays as it was while the site is behind it
abbrev pub invariant-loop : goal.invariant-loop
invariant-loop g l = l.session ≡ l.fn.session
