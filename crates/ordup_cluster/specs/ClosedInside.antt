-- What the fields of a closed cluster keep.
use Rattle.std.specs.Prelude.{◌≤◌}
use Rattle.ordup_cluster.specs.Clusters.{most_before, IsClosed}
use Rattle.ordup_cluster.specs.declared.closed.Closed.TheInside.{Inside}

-- no more updates came before than may, and the sites are those of the primary, and agree with it
pub record KeepsClosed (c : Inside) : Type 0 where
  pub before : c.before ≤ most_before
  pub closed : IsClosed (record { before = c.before; primary = c.primary; sites = c.sites.items })
