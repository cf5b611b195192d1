use Rattle.std.proofs.Common.{◌≡◌, ◌≤◌, length, take}
use Rattle.std.specs.Vec.{vec_capacity}
use Rattle.ordup_limits.specs.Entries.{from_start}
use Rattle.ordup_limits.proofs.limit_table.entries_from_start.Given as goal

-- the entries so far, with spare capacity for the others
abbrev pub invariant-loop-limit : goal.invariant-loop-limit
invariant-loop-limit g l = record {
  so_far : l.entries.items ≡ from_start (take l.limit-index l.limits);
  spare : length l.limits ≤ vec_capacity l.entries;
}
