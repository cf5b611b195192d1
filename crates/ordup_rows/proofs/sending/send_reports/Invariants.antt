use Rattle.std.proofs.Common.{drop, map}
use Rattle.ordup_audit.specs.RecordViews.{changes_in}
use Rattle.ordup_rows.specs.Rows.{report_row}
use Rattle.ordup_rows.proofs.SentLemmas.{IsUnderWay}
use Rattle.ordup_rows.proofs.sending.send_reports.Given as goal

abbrev pub invariant-loop-i : goal.invariant-loop-i
invariant-loop-i g l =
    IsUnderWay (g.W.Write.contents l.fn.output) (g.W.Write.contents l.output) l.initial.rows l.rows
    (map report_row (drop l.i (changes_in l.changes))) (map report_row (changes_in l.changes))
