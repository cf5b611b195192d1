-- A table of limits in the fields of a `LimitTable`.
use Rattle.std.specs.Prelude.{◌≡◌}
use Rattle.ordup_limits.specs.Entries.{AreEntries, latest}
use Rattle.ordup_limits.specs.declared.limit_table.LimitTable.TheInside.{Inside}

-- entries, with the last limit of each scope beside them
pub record KeepsEntries {A : Type 0} (t : Inside A) : Type 0 where
  pub entries : AreEntries t.entries.items
  pub limits : t.limits ≡ latest t.entries.items
