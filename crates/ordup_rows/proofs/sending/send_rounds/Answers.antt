-- What was sent and what is held make up the rows of the rounds so far. Where the writer fails, it has a prefix of them.
use Rattle.std.proofs.Common.{◌+◌, arith}
use Rattle.ordup_rows.specs.Rows.{round_row}
use Rattle.ordup_rows.proofs.FormLemmas.{counted-more}
use Rattle.ordup_rows.proofs.SentLemmas.{formed, on_err, sends_on, stops}
use Rattle.ordup_rows.proofs.sending.send_rounds.Goals as goal

pub loop-i-preserved : goal.loop-i-preserved
loop-i-preserved g c =
    let i = c.loop-i.i in
    let left = formed _ _ c.loop-i.rows c.push_round.new.rows _ _ _ _ c.loop-i.invariant.1 c.in-Ok.ensures.text
    (counted-more round_row (i + 1) i c.args.places.now 0 (omega arith)) in (
      c.in_ok-hand_out_many.ensures.clean,
      sends_on _ _ _ _ _ _ _ left c.in_ok-hand_out_many.ensures.sent,
    )

pub returns-in_err-hand_out_many-clause-front : goal.returns-in_err-hand_out_many-clause-front
returns-in_err-hand_out_many-clause-front g c =
    let i = c.loop-i.i in
    let left = formed _ _ c.loop-i.rows c.push_round.new.rows _ _ _ _ c.loop-i.invariant.1 c.in-Ok.ensures.text
    (counted-more round_row (i + 1) i c.args.places.now 0 (omega arith)) in
    on_err _ _ (stops _ _ _ _ _ _ left c.in_err-hand_out_many.ensures.front)
