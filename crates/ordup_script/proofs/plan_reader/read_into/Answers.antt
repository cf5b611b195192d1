use Rattle.std.proofs.lemmas.Result.{err_from_is_err_and}
use Rattle.ordup_script.proofs.Plannings.{ends_as_plan, ends_in_fault}
use Rattle.ordup_script.proofs.plan_reader.read_into.Goals as goal

pub returns-in_err-read_lines : goal.returns-in_err-read_lines
returns-in_err-read_lines g c =
    let failed = err_from_is_err_and c.from_residual.result c.from_residual.ensures.1 in
    rw (failed.1, failed.2)
    (ends_in_fault c.read_lines.new.taker _ c.in_err-read_lines.field-0.0 c.in_err-read_lines.ensures.lines)

pub returns-in-Whole : goal.returns-in-Whole
returns-in-Whole g c =
    ends_as_plan c.read_lines.new.taker _ c.end.result (rw c.in-Whole.is at c.in_ok-read_lines.ensures.lines) c.end.ensures
