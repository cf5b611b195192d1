use Rattle.ordup_audit.specs.RecordViews.{changes_in}
use Rattle.ordup_rows.proofs.FormLemmas.{reports-more}
use Rattle.ordup_rows.proofs.SentLemmas.{formed, on_err, sends_on, stops}
use Rattle.ordup_rows.proofs.sending.send_reports.Goals as goal

pub loop-i-preserved : goal.loop-i-preserved
loop-i-preserved g c =
    let i = c.loop-i.i in
    let left = formed _ _ c.loop-i.rows c.push_report.new.rows _ _ _ _ c.loop-i.invariant.1 c.in-Ok.ensures.text
    (reports-more i (changes_in c.args.changes) c.at.result c.at.ensures) in (
      c.in_ok-hand_out_many.ensures.clean,
      sends_on _ _ _ _ _ _ _ left c.in_ok-hand_out_many.ensures.sent,
    )

pub returns-in_err-hand_out_many-clause-front : goal.returns-in_err-hand_out_many-clause-front
returns-in_err-hand_out_many-clause-front g c =
    let i = c.loop-i.i in
    let left = formed _ _ c.loop-i.rows c.push_report.new.rows _ _ _ _ c.loop-i.invariant.1 c.in-Ok.ensures.text
    (reports-more i (changes_in c.args.changes) c.at.result c.at.ensures) in
    on_err _ _ (stops _ _ _ _ _ _ left c.in_err-hand_out_many.ensures.front)
