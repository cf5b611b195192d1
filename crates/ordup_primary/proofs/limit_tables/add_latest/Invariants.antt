use Rattle.std.proofs.Common.{◌≡◌, take}
use Rattle.ordup_primary.specs.Successors.{limits_from_start}
use Rattle.ordup_primary.proofs.limit_tables.add_latest.Given as goal

-- the limits of the sites so far
abbrev pub invariant-loop-table : goal.invariant-loop-table
invariant-loop-table g l = l.limits.items ≡ limits_from_start (take l.table-index l.tables)
