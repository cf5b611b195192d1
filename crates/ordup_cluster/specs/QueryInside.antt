-- What the fields of a query at a site of a cluster keep.
use Rattle.std.specs.Prelude.{◌≤◌}
use Rattle.ordup_objects.specs.Sizes.{most_updates}
use Rattle.ordup_cluster.specs.Clusters.{most_before}
use Rattle.ordup_cluster.specs.declared.site_query.SiteQuery.TheInside.{Inside}

-- its place lies in a store, before which no more updates came than may
pub record KeepsPlace (s : Inside) : Type 0 where
  pub before : s.before ≤ most_before
  pub place : s.query.place ≤ most_updates
