-- What the fields of a cluster keep.
use Rattle.std.specs.Prelude.{◌≡◌, ◌<◌, ◌≤◌, length, vec_len}
use Rattle.std.specs.Vec.{vec_capacity}
use Rattle.ordup_cluster.specs.Clusters.{most_before}
use Rattle.ordup_cluster.specs.declared.cluster.Cluster.TheInside.{Inside}

-- No more updates came before than may. There is a site, and a cell for each that is declared; the list for the sites is empty and
-- has spare capacity for the site of each cell.
pub record KeepsCluster (c : Inside) : Type 0 where
  pub before : c.before ≤ most_before
  pub some : 0 < vec_len c.cells
  pub cells : vec_len c.cells ≡ length c.setup.sites
  pub empty : vec_len c.spare_sites ≡ 0
  pub enough : vec_len c.cells ≤ vec_capacity c.spare_sites
