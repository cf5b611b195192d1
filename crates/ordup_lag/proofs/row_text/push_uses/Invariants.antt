use Rattle.std.proofs.Common.{◌≡◌, ◌≤◌, ◌*◌, ◌-◌, ◌++◌, length}
use Rattle.ordup_lag.specs.declared.amount_cell.TheConstants.{CELL_BYTES}
use Rattle.ordup_objects.specs.Serial.{History}
use Rattle.ordup_log.specs.Groups.{GroupList}
use Rattle.ordup_limits.specs.Ledgers.{StandsFor}
use Rattle.ordup_lag.specs.LagRows.{uses_of}
use Rattle.ordup_lag.specs.Texts.{uses_text}
use Rattle.ordup_lag.proofs.row_text.push_uses.Given as goal

-- the cells of the limits so far, with spare capacity for the others
abbrev pub invariant-loop-index : goal.invariant-loop-index
invariant-loop-index g l = record {
  count : length l.cells.items ≡ length l.fn.cells.items;
  text : (h : History) (groups : GroupList) → StandsFor l.ledger h groups
      → l.out.text ≡ l.fn.out.text ++ uses_text (uses_of l.ledger h groups) l.index;
  spare : 2 * CELL_BYTES * (l.scopes - l.index) ≤ l.out.spare;
}
