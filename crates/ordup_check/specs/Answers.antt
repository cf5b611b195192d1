-- What is answered to a text that tells a record, or a valid series of records.
use Rattle.std.specs.Prelude.{◌≡◌, ⊤, List, Result, Ok, Err}
use Rattle.ordup_audit.specs.Records.{RecordState}
use Rattle.ordup_check.specs.declared.reading.RecordReadFault.{RecordReadFault}
use Rattle.ordup_check.specs.declared.reading.RecordReadFault.TheVariants as fault
use Rattle.ordup_check.specs.declared.series.SeriesReadFault.{SeriesReadFault}
use Rattle.ordup_check.specs.declared.series.SeriesReadFault.TheVariants as of_series
use Rattle.ordup_series.specs.Audits.{rounds_of}
use Rattle.ordup_series.specs.declared.verdict.SeriesVerdict.{SeriesVerdict}
use Rattle.ordup_series.specs.declared.verdict.SeriesVerdict.TheVariants.{Fewest}

-- this record, where no read fails and no memory is refused
abbrev pub AnswersRecord : Result RecordState RecordReadFault → RecordState → Type 0
AnswersRecord (Ok q) r = q ≡ r
AnswersRecord (Err fault.Read) r = ⊤
AnswersRecord (Err fault.NoMemory) r = ⊤
AnswersRecord (Err (fault.Malformed n)) r = ⊥

-- the number of the rounds of these records, where no read fails and no memory is refused
abbrev pub AnswersSeries : Result SeriesVerdict SeriesReadFault → List RecordState → Type 0
AnswersSeries (Ok v) records = v ≡ Fewest (rounds_of records)
AnswersSeries (Err of_series.Read) records = ⊤
AnswersSeries (Err of_series.NoMemory) records = ⊤
AnswersSeries (Err (of_series.Malformed place row)) records = ⊥
