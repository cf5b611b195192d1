-- What the fields of a query keep.
use Rattle.std.specs.Prelude.{◌≤◌, ◌*◌}
use Rattle.std.specs.Int.RustNames.{unsigned_abs}
use Rattle.ordup_objects.specs.Sizes.{greatest_value}
use Rattle.ordup_query.specs.Sizes.{most_reads, greatest_import_limit}
use Rattle.ordup_query.specs.declared.query.Query.TheInside.{Inside}

-- the total is within the limit, and the sums fit
module _ {A : Type 0} where
  pub record IsQuery (q : Inside A) : Type 0 where
    pub within : q.total ≤ q.limit
    pub limit : q.limit ≤ greatest_import_limit
    pub few : q.reads ≤ most_reads
    pub bounded : unsigned_abs q.sum ≤ greatest_value * q.reads
