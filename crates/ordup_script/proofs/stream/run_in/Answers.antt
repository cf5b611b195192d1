-- The lines that the reader took are the ones that were answered, and all answers went out.
-- So how the reading ended says how the run ends.
use Rattle.std.proofs.Common.{rules}
use Rattle.std.proofs.KnownBytes.{Appends-kept}
use Rattle.std.proofs.lemmas.Result.{err_from_is_err_and}
use Rattle.ordup_script.proofs.Runs.{sent_all, stopped, told_all}
use Rattle.ordup_script.proofs.stream.run_in.Goals as goal

pub returns-in_err-read_lines : goal.returns-in_err-read_lines
returns-in_err-read_lines g c =
    let failed = err_from_is_err_and c.from_residual.result c.from_residual.ensures.1 in
    rw (failed.1, failed.2) (stopped g.W.Write.contents _ c.read_lines.new.taker _ _ _ c.args.limit c.in_err-read_lines.field-0.0
    (λ later. search rules) c.in_err-read_lines.ensures.lines)

pub returns-in-Ok : goal.returns-in-Ok
returns-in-Ok g c =
    let (script, took, within, end, h) = rw c.in-Whole.is at c.in_ok-read_lines.ensures.lines in
    let later = h.later in
    let grew = Appends-kept _ _ _ _ (sent_all g.W.Write.contents _ _ _ h c.in_ok-read_lines.ensures.clear) c.flush.ensures.bytes in
    (script, took, within, end, search rules, search (rules, h.script))

pub returns-in-Err : goal.returns-in-Err
returns-in-Err g c =
    let (script, took, within, end, h) = rw c.in-Whole.is at c.in_ok-read_lines.ensures.lines in
    let later = h.later in
    let grew = Appends-kept _ _ _ _ (sent_all g.W.Write.contents _ _ _ h c.in_ok-read_lines.ensures.clear) c.flush.ensures.bytes in
    told_all g.row.A.Denot _ _ _ _ script took end (search rules)

pub returns-in-BeforeFailure : goal.returns-in-BeforeFailure
returns-in-BeforeFailure g c =
    let (script, took, within, h) = rw c.in-BeforeFailure.is at c.in_ok-read_lines.ensures.lines in
    let later = h.later in
    let grew = sent_all g.W.Write.contents _ _ _ h c.in_ok-read_lines.ensures.clear in
    (script, took, within, search rules)

pub returns-in-UpToLimit : goal.returns-in-UpToLimit
returns-in-UpToLimit g c =
    let (script, took, over, h) = rw c.in-UpToLimit.is at c.in_ok-read_lines.ensures.lines in
    let later = h.later in
    let grew = sent_all g.W.Write.contents _ _ _ h c.in_ok-read_lines.ensures.clear in
    (script, took, over, search rules)
