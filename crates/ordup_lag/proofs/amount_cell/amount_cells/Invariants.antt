use Rattle.std.proofs.Common.{◌≡◌, ◌≤◌, length, vec_capacity}
use Rattle.ordup_lag.proofs.amount_cell.amount_cells.Given as goal

-- the cells so far, with spare capacity for the others
abbrev pub invariant-loop : goal.invariant-loop
invariant-loop g l = record {
  count : length l.cells.items ≡ l.counter;
  spare : l.count ≤ vec_capacity l.cells;
}
