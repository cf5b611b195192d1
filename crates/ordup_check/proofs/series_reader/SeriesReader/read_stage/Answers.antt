-- The rows of the next record from where the reader stands: at the start of the text, or behind the first row.
use Rattle.ordup_audit.proofs.Common.{◌∙◌, [], refl, sym}
use Rattle.csv.specs.Records.{fields_of}
use Rattle.ordup_check.specs.SeriesReading.{limited_bytes, short_bytes}
use Rattle.ordup_check.specs.StageViews.{stage_of}
use Rattle.ordup_check.proofs.ReadSteps.{reached-push}
use Rattle.ordup_check.proofs.SeriesLemmas.{first_row, first_row_stops, starts}
use Rattle.ordup_check.proofs.series_reader.SeriesReader.read_stage.Goals as goal

pub read_rows-requires-in-Ok-true-clause-stage : goal.read_rows-requires-in-Ok-true-clause-stage
read_rows-requires-in-Ok-true-clause-stage g c =
    reached-push (stage_of c.args.stage.now) (stage_of c.take_row.new.stage) (fields_of c.args.self.now.row)
    (rw c.requires.unread ([], refl)) (sym (rw c.in-Ok-true.field-0-test at c.in-Ok-true.ensures.taken))

pub returns-in_ok-end-in-Start-clause-ended : goal.returns-in_ok-end-in-Start-clause-ended
returns-in_ok-end-in-Start-clause-ended g c text before stands =
    let rem = short_bytes (limited_bytes g.R.Read.remaining) in
    let here = rw c.in-Start.is at stands in
    c.in_ok-end-in-Start.ensures.ended text before
    (starts rem c.args.self.now.rdr (fields_of c.args.self.now.row) text before (stage_of c.args.stage.now) c.requires.plain here c.requires.unread)

pub returns-in_ok-end-in-Ok-true-clause-ended : goal.returns-in_ok-end-in-Ok-true-clause-ended
returns-in_ok-end-in-Ok-true-clause-ended g c text before stands =
    let rem = short_bytes (limited_bytes g.R.Read.remaining) in
    let here = rw c.in-FirstRow.is at stands in
    let taken = sym (rw (c.in-Ok-true.field-0-test, c.requires.unread) at c.in-Ok-true.ensures.taken) in
    c.in_ok-end-in-Ok-true.ensures.ended text before
    (first_row rem c.args.self.now.rdr (fields_of c.args.self.now.row) text before (stage_of c.take_row.new.stage) here taken)

pub returns-in-Ok-false-clause-stage : goal.returns-in-Ok-false-clause-stage
returns-in-Ok-false-clause-stage g c begins =
    rw (c.in-Ok-false.ensures.kept c.in-Ok-false.field-0-test begins ∙ c.requires.unread) ([], refl)

pub returns-in-Ok-false-clause-ended : goal.returns-in-Ok-false-clause-ended
returns-in-Ok-false-clause-ended g c text before stands =
    let rem = short_bytes (limited_bytes g.R.Read.remaining) in
    let here = rw c.in-FirstRow.is at stands in
    let none = sym (rw (c.in-Ok-false.field-0-test, c.requires.unread) at c.in-Ok-false.ensures.taken) in
    first_row_stops rem c.args.self.now.rdr (fields_of c.args.self.now.row) text before (stage_of c.take_row.new.stage) here none
    (λ begins. c.in-Ok-false.ensures.kept c.in-Ok-false.field-0-test begins ∙ c.requires.unread)
