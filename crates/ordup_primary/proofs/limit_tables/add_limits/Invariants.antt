use Rattle.std.proofs.Common.{◌≡◌, take}
use Rattle.ordup_primary.proofs.limit_tables.add_limits.Given as goal

-- the tables so far
abbrev pub invariant-loop-table : goal.invariant-loop-table
invariant-loop-table g l = l.limits.items ≡ take l.table-index l.tables
