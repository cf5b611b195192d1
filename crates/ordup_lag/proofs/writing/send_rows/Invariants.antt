use Rattle.std.proofs.Common.{◌≡◌, ◌++◌, length, take}
use Rattle.std.specs.Prelude.{min}
use Rattle.ordup_limits.specs.Entries.{latest}
use Rattle.ordup_audit.specs.Beginning.{HaveBegun}
use Rattle.ordup_limits.specs.Ledgers.{StandsAt}
use Rattle.ordup_audit.specs.Records.{history_of, report_at}
use Rattle.ordup_rows.specs.Forming.{SendsUpto}
use Rattle.ordup_lag.specs.Texts.{rows_upto}
use Rattle.ordup_lag.proofs.writing.send_rows.Given as goal

-- a cell for each limit, the limits that have begun, a ledger of them at the span of the last row, and the rows so far: sent, but for what is left
abbrev pub invariant-loop-updates : goal.invariant-loop-updates
invariant-loop-updates g l = record {
  count : length l.cells.items ≡ length l.fn.cells.items;
  begun : HaveBegun l.updates l.audited.limits l.begun;
  stands : StandsAt (history_of l.audited) l.audited.groups (latest (take l.begun l.audited.limits))
      (min (report_at l.audited.reports l.updates) l.updates) l.updates l.ledger;
  sent : SendsUpto (g.W.Write.contents l.fn.output) (g.W.Write.contents l.output)
      (l.initial.out.text ++ rows_upto l.before l.audited l.updates) l.out.text;
}
