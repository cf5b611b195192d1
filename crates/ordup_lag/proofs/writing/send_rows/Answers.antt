-- What was written and what is held come to the rows so far, of which a writer that fails has a prefix.
-- The ledger has the limits that are in force at the row.
use Rattle.ordup_audit.proofs.Common.{◌≡◌, ◌+◌, ◌∙◌, arith, refl, report_at}
use Rattle.std.specs.Prelude.{min}
use Rattle.ordup_limits.proofs.EntryLemmas.{in_force-first}
use Rattle.ordup_lag.proofs.SentLemmas.{front_none, row_formed, sends_more, sends_none, stops_at}
use Rattle.ordup_lag.proofs.writing.send_rows.Goals as goal

pub loop-updates-init : goal.loop-updates-init
loop-updates-init g c =
    let none : min (report_at c.args.audited.now.reports 0) 0 ≡ 0 = omega arith in
    record {
      count = refl;
      begun = record { upto = λ i d lt. absurd (omega arith); later = c.keeps.ensures.limits.begun };
      stands = rw none c.requires.first;
      sent = sends_none _ _;
    }

pub push_row-requires-clause-limits : goal.push_row-requires-clause-limits
push_row-requires-clause-limits g c = c.loop-updates.invariant.count ∙ c.requires.limits

pub push_row-requires-clause-stands : goal.push_row-requires-clause-stands
push_row-requires-clause-stands g c =
    let r = c.args.audited.now in
    let begun = c.advance-begun.ensures.begun in
    rw (in_force-first r.limits (c.loop-updates.updates + 1) c.advance-begun.result begun.upto begun.later) c.advance-begun.ensures.stands

pub returns-in_default-clause-front : goal.returns-in_default-clause-front
returns-in_default-clause-front g c =
    stops_at _ _ _ _ c.args.before c.args.audited.now c.loop-updates.updates _ (omega arith) c.loop-updates.invariant.sent (front_none _ _)

pub returns-in_err-send_many-clause-front : goal.returns-in_err-send_many-clause-front
returns-in_err-send_many-clause-front g c =
    let r = c.args.audited.now in
    let sent = row_formed _ _ _ c.args.before r c.loop-updates.updates _ _ c.loop-updates.invariant.sent c.in-Ok.ensures.text in
    stops_at _ _ _ _ c.args.before r (c.loop-updates.updates + 1) _ (omega arith) sent c.in_err-send_many.ensures.front

pub loop-updates-preserved : goal.loop-updates-preserved
loop-updates-preserved g c =
    let r = c.args.audited.now in
    let sent = row_formed _ _ _ c.args.before r c.loop-updates.updates _ _ c.loop-updates.invariant.sent c.in-Ok.ensures.text in
    record {
      count = c.in-Ok.ensures.count ∙ c.loop-updates.invariant.count;
      begun = c.advance-begun.ensures.begun;
      stands = c.advance-begun.ensures.stands;
      sent = sends_more _ _ _ _ _ _ sent c.in_ok-send_many.ensures.sent;
    }

pub returns-clause-front : goal.returns-clause-front
returns-clause-front g c =
    stops_at _ _ _ _ c.args.before c.args.audited.now c.loop-updates.updates _ (omega arith) c.loop-updates.invariant.sent
    (rw c.as_slice.ensures at c.send.ensures.front)
