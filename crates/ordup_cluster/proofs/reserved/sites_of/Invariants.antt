use Rattle.std.proofs.Common.{◌≡◌, ◌+◌, ◌≤◌, vec_len}
use Rattle.std.specs.Vec.{vec_capacity}
use Rattle.std.specs.Vec.Iter.{into_iter_len}
use Rattle.ordup_cluster.proofs.reserved.sites_of.Given as goal

-- each cell gave its site or is left, and there is a place for the sites of those that are left
abbrev pub invariant-loop-cell : goal.invariant-loop-cell
invariant-loop-cell l = record {
  count : into_iter_len l.cell-iterator + vec_len l.sites ≡ vec_len l.fn.cells;
  spare : into_iter_len l.cell-iterator + vec_len l.sites ≤ vec_capacity l.sites;
}
