use Rattle.std.proofs.Common.{◌≡◌, ◌+◌, arith}
use Rattle.ordup_rows.proofs.FormLemmas.{change_rows-more}
use Rattle.ordup_rows.proofs.SentLemmas.{formed, on_err, sends_on, stops}
use Rattle.ordup_rows.proofs.sending.send_sets.Goals as goal

pub loop-index-preserved : goal.loop-index-preserved
loop-index-preserved g c =
    let index = c.loop-index.index in
    let left = formed _ _ c.loop-index.rows c.push_update.new.rows _ _ _ _ c.loop-index.invariant.1 c.in-Ok.ensures.text
    (change_rows-more c.args.audited.now.objects (index + 1) index c.args.audited.now.sets (omega arith)) in (
      c.in_ok-hand_out_many.ensures.clean,
      sends_on _ _ _ _ _ _ _ left c.in_ok-hand_out_many.ensures.sent,
    )

pub returns-in_err-hand_out_many-clause-front : goal.returns-in_err-hand_out_many-clause-front
returns-in_err-hand_out_many-clause-front g c =
    let index = c.loop-index.index in
    let left = formed _ _ c.loop-index.rows c.push_update.new.rows _ _ _ _ c.loop-index.invariant.1 c.in-Ok.ensures.text
    (change_rows-more c.args.audited.now.objects (index + 1) index c.args.audited.now.sets (omega arith)) in
    on_err _ _ (stops _ _ _ _ _ _ left c.in_err-hand_out_many.ensures.front)
