use Rattle.std.proofs.Common.{Err}
use Rattle.std.proofs.lemmas.Result.{err_from_is_err_and}
use Rattle.ordup_script.proofs.Readings.{ends_none, ends_some, hands_out, reads_then}
use Rattle.ordup_script.proofs.line_reader.read_last_line.Goals as goal

pub returns-then-is_empty-clause-lines : goal.returns-then-is_empty-clause-lines
returns-then-is_empty-clause-lines g c =
    ends_none c.args.taker.now c.args.held.now (λ held is. c.is_empty.ensures.empty held is c.if-is_empty.true)

pub returns-in_err-take_held-clause-lines : goal.returns-in_err-take_held-clause-lines
returns-in_err-take_held-clause-lines g c =
    let failed = err_from_is_err_and c.from_residual.result c.from_residual.ensures.1 in
    rw (failed.1, failed.2) (ends_some (Err c.in_err-take_held.field-0.0) (λ held is. c.is_empty.ensures.some held is c.if-is_empty.false)
    c.in_err-take_held.ensures.lines)

pub returns-clause-lines : goal.returns-clause-lines
returns-clause-lines g c =
    ends_some c.hand_out.result (λ held is. c.is_empty.ensures.some held is c.if-is_empty.false)
    (reads_then c.in_ok-take_held.ensures.lines (hands_out c.take_held.new.held c.hand_out.result c.hand_out.ensures.lines))
