-- The end of a record, at the end of the text or at a row: it is whole, or misses a row, or the row may not stand there.
use Rattle.ordup_audit.proofs.Common.{◌∙◌, refl, sym}
use Rattle.csv.specs.Records.{fields_of}
use Rattle.ordup_check.specs.StageViews.{stage_of}
use Rattle.ordup_check.proofs.ReadSteps.{closed-sound}
use Rattle.ordup_check.proofs.SeriesLemmas.{last_misses, last_record, next_misses, record_ends, row_is_bad}
use Rattle.ordup_check.proofs.series_reader.SeriesReader.end_record.Goals.{in-Text, in-Row}
use Rattle.ordup_check.proofs.series_reader.SeriesReader.end_record.Goals as goal

pub returns-in-Row-2-clause-next : goal.returns-in-Row-2-clause-next
returns-in-Row-2-clause-next g c limit text before records are ends next =
    row_is_bad g.R.Read.remaining limit text before records c.args.self.now.rdr (stage_of c.args.stage) (fields_of c.args.self.now.row)
    c.in-Row-2.row are (rw c.in-Row-2.is at ends) next (sym c.begins_record.ensures ∙ c.if-begins_record.false)

pub close-requires : goal.close-requires
close-requires g c = elim c.match-end.branch [
  | in-Text w ↦ closed-sound (stage_of c.args.stage) (rw w.in-Text.is at c.requires.reached)
  | in-Row w ↦ closed-sound (stage_of c.args.stage) ((rw w.in-Row.is at c.requires.reached) (sym w.begins_record.ensures ∙ w.if-begins_record.true))
]

pub returns-in-Ok-Some-clause-next : goal.returns-in-Ok-Some-clause-next
returns-in-Ok-Some-clause-next g c limit text before records are ends next =
    let r = c.in-Ok-Some.record in
    let whole = sym c.in-Ok-Some.ensures ∙ c.in-Ok-Some.field-0-is in
    elim c.match-end.branch [
      | in-Text w ↦ last_record g.R.Read.remaining limit text before records c.args.self.now.rdr (stage_of c.args.stage)
          (fields_of c.args.self.now.row) w.in-Text.row c.match-end.self r are (rw w.in-Text.is at ends) next whole
          (rw w.self-is refl)
      | in-Row w ↦ record_ends g.R.Read.remaining limit text before records c.args.self.now.rdr (stage_of c.args.stage)
          (fields_of c.args.self.now.row) w.in-Row.row c.match-end.self r are (rw w.in-Row.is at ends)
          (sym w.begins_record.ensures ∙ w.if-begins_record.true) whole (rw w.self-is refl) (rw w.self-is refl) (rw w.self-is refl)
    ]

pub returns-in-Ok-None-clause-next : goal.returns-in-Ok-None-clause-next
returns-in-Ok-None-clause-next g c limit text before records are ends next =
    let none = sym c.in-Ok-None.ensures ∙ c.in-Ok-None.field-0-is in
    elim c.match-end.branch [
      | in-Text w ↦ rw w.row-is (last_misses g.R.Read.remaining limit text before records c.args.self.now.rdr (stage_of c.args.stage)
          (fields_of c.args.self.now.row) w.in-Text.row are (rw w.in-Text.is at ends) next none)
      | in-Row w ↦ rw w.row-is (next_misses g.R.Read.remaining limit text before records c.args.self.now.rdr (stage_of c.args.stage)
          (fields_of c.args.self.now.row) w.in-Row.row are (rw w.in-Row.is at ends) next none)
    ]
