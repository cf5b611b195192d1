-- The lines that the reader took are the ones that were explained, and all answers and notes went out.
-- So how the reading ended says how the run ends.
use Rattle.std.proofs.Common.{refl}
use Rattle.std.proofs.lemmas.Result.{err_from_is_err_and}
use Rattle.ordup_script.proofs.Explanation.{noted_all, noted_front, stopped_later, stopped_noting, stopped_run}
use Rattle.ordup_script.proofs.explaining.explain_in.Goals as goal

pub returns-in_err-read_lines-clause-later : goal.returns-in_err-read_lines-clause-later
returns-in_err-read_lines-clause-later g c =
    (stopped_later g.W.Write.contents g.E.Write.contents c.args.explainer.now c.read_lines.new.taker _ _ c.in_err-read_lines.ensures.lines).0

pub returns-in_err-read_lines-clause-faults : goal.returns-in_err-read_lines-clause-faults
returns-in_err-read_lines-clause-faults g c =
    (stopped_later g.W.Write.contents g.E.Write.contents c.args.explainer.now c.read_lines.new.taker _ _ c.in_err-read_lines.ensures.lines).1

pub returns-in_err-read_lines-clause-runs : goal.returns-in_err-read_lines-clause-runs
returns-in_err-read_lines-clause-runs g c =
    let failed = err_from_is_err_and c.from_residual.result c.from_residual.ensures.1 in
    rw (failed.1, failed.2) (stopped_run g.W.Write.contents g.E.Write.contents c.args.explainer.now c.read_lines.new.taker _ _ _
    c.in_err-read_lines.field-0.0 c.in_err-read_lines.ensures.lines)

pub returns-in_err-read_lines-clause-explains : goal.returns-in_err-read_lines-clause-explains
returns-in_err-read_lines-clause-explains g c =
    let failed = err_from_is_err_and c.from_residual.result c.from_residual.ensures.1 in
    rw (failed.1, failed.2) (stopped_noting g.W.Write.contents g.E.Write.contents c.args.explainer.now c.read_lines.new.taker _ _ _ _
    c.in_err-read_lines.field-0.0 (λ same. refl) c.in_err-read_lines.ensures.lines)

pub returns-in-Err-clause-explains : goal.returns-in-Err-clause-explains
returns-in-Err-clause-explains g c =
    let (script, took, within, end, h) = rw c.in-Whole.is at c.in_ok-read_lines.ensures.lines in
    noted_front g.row.A.Denot _ _ _ _ script took end
    (noted_all g.W.Write.contents g.E.Write.contents c.args.explainer.now c.read_lines.new.taker _ h c.in_ok-read_lines.ensures.clear.1)
