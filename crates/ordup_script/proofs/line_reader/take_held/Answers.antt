use Rattle.std.proofs.Common.{Ok, Err}
use Rattle.std.proofs.lemmas.Result.{err_from_is_err_and}
use Rattle.ordup_script.proofs.Readings.{takes_held}
use Rattle.ordup_script.proofs.line_reader.take_held.Goals as goal

pub returns-in_err-take-clause-lines : goal.returns-in_err-take-clause-lines
returns-in_err-take-clause-lines g c =
    let failed = err_from_is_err_and c.from_residual.result c.from_residual.ensures.1 in
    rw (failed.1, failed.2)
    (takes_held c.args.held.now (Err c.in_err-take.field-0.0) (rw c.line.ensures at c.in_err-take.ensures.lines) tt)

pub returns-clause-lines : goal.returns-clause-lines
returns-clause-lines g c =
    takes_held c.clear.new.self (Ok tt) (rw c.line.ensures at c.in_ok-take.ensures.lines) c.clear.ensures
