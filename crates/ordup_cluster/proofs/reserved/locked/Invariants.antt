use Rattle.std.proofs.Common.{◌≡◌, ◌+◌, ◌≤◌, length, vec_len}
use Rattle.std.specs.Vec.{vec_capacity}
use Rattle.std.specs.Vec.Iter.{into_iter_len}
use Rattle.ordup_cluster.proofs.reserved.locked.Given as goal

-- each cell is locked or left, and there is a place for those that are left
abbrev pub invariant-loop-cell : goal.invariant-loop-cell
invariant-loop-cell l = record {
  count : into_iter_len l.cell-iterator + vec_len l.locked ≡ length l.fn.cells.items;
  spare : into_iter_len l.cell-iterator + vec_len l.locked ≤ vec_capacity l.locked;
}
