-- What is read up to the limit is the text itself, where the text is within it.
-- A row that is bad in it stays bad however the text goes on, and a text that tells a record has no such row.
use Rattle.std.proofs.Common.{◌∙◌, sym}
use Rattle.std.proofs.lemmas.Result.{err_from_is_err_and}
use Rattle.ordup_check.specs.StageViews.{stage_of}
use Rattle.ordup_check.proofs.Cuts.{missing_within, read_bad, read_whole, tells_whole, tells_within}
use Rattle.ordup_check.proofs.ReadSteps.{malformed-number}
use Rattle.ordup_check.proofs.TextAnswers.{record_answered, fault_answered}
use Rattle.ordup_check.proofs.reading.read_record_within.Goals as goal

pub returns-in_err-stage-clause-malformed : goal.returns-in_err-stage-clause-malformed
returns-in_err-stage-clause-malformed g c =
    let failed = err_from_is_err_and c.from_residual.result c.from_residual.ensures.1 in
    let source = (rw (c.new-3.ensures.input, c.new-3.ensures.state, c.new-3.ensures.left, c.new-3.ensures.open, c.new-2.ensures.input, c.new-2.ensures.left, c.new-2.ensures.within) at c.from_reader-rdr.ensures.source) in
    let text = g.R.Read.remaining c.args.input.now in
    let bad = rw c.in_err-stage.was at c.read_stage-read.ensures.malformed in
    rw failed.1 (λ n e. read_bad c.args.limit text _ n source (bad n (sym failed.2 ∙ e)))

pub returns-in-Ok-Some-clause-read : goal.returns-in-Ok-Some-clause-read
returns-in-Ok-Some-clause-read g c =
    let text = g.R.Read.remaining c.args.input.now in
    let stage = stage_of c.in_ok-stage.stage in
    tells_whole text c.args.limit stage c.in_ok-stage.row c.in-Ok-Some.record (sym c.in-Ok-Some.ensures ∙ c.in-Ok-Some.field-0-is)
    (read_whole c.args.limit text _ stage c.in_ok-stage.row
    (rw (c.new-3.ensures.input, c.new-3.ensures.state, c.new-3.ensures.left, c.new-3.ensures.open, c.new-2.ensures.input, c.new-2.ensures.left, c.new-2.ensures.within) at c.from_reader-rdr.ensures.source)
    (rw c.in_ok-stage.was at c.read_stage-read.ensures.taken))

pub returns-in-Ok-Some-clause-limited : goal.returns-in-Ok-Some-clause-limited
returns-in-Ok-Some-clause-limited g c =
    let text = g.R.Read.remaining c.args.input.now in
    let stage = stage_of c.in_ok-stage.stage in
    tells_within text c.args.limit stage c.in_ok-stage.row
    (read_whole c.args.limit text _ stage c.in_ok-stage.row
    (rw (c.new-3.ensures.input, c.new-3.ensures.state, c.new-3.ensures.left, c.new-3.ensures.open, c.new-2.ensures.input, c.new-2.ensures.left, c.new-2.ensures.within) at c.from_reader-rdr.ensures.source)
    (rw c.in_ok-stage.was at c.read_stage-read.ensures.taken))

pub returns-in-Ok-None-clause-malformed : goal.returns-in-Ok-None-clause-malformed
returns-in-Ok-None-clause-malformed g c n e =
    let text = g.R.Read.remaining c.args.input.now in
    let stage = stage_of c.in_ok-stage.stage in
    rw (← malformed-number _ n e)
    (missing_within text c.args.limit stage c.in_ok-stage.row (sym c.in-Ok-None.ensures ∙ c.in-Ok-None.field-0-is)
    (read_whole c.args.limit text _ stage c.in_ok-stage.row
    (rw (c.new-3.ensures.input, c.new-3.ensures.state, c.new-3.ensures.left, c.new-3.ensures.open, c.new-2.ensures.input, c.new-2.ensures.left, c.new-2.ensures.within) at c.from_reader-rdr.ensures.source)
    (rw c.in_ok-stage.was at c.read_stage-read.ensures.taken)))

pub returns-in_err-stage-clause-told : goal.returns-in_err-stage-clause-told
returns-in_err-stage-clause-told g c text r is few told =
    let failed = err_from_is_err_and c.from_residual.result c.from_residual.ensures.1 in
    rw failed.1 (fault_answered c.args.limit (g.R.Read.remaining c.args.input.now) text failed.0 r is few told
    (rw failed.1 at (returns-in_err-stage-clause-malformed g c)))

pub returns-in-Ok-Some-clause-told : goal.returns-in-Ok-Some-clause-told
returns-in-Ok-Some-clause-told g c text r is few told =
    record_answered (g.R.Read.remaining c.args.input.now) text c.in-Ok-Some.record r is told (returns-in-Ok-Some-clause-read g c)

pub returns-in-Ok-None-clause-told : goal.returns-in-Ok-None-clause-told
returns-in-Ok-None-clause-told g c text r is few told =
    fault_answered c.args.limit (g.R.Read.remaining c.args.input.now) text _ r is few told (returns-in-Ok-None-clause-malformed g c)
