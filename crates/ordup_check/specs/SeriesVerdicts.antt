-- The verdict on a text of records, one after another.
use Rattle.std.specs.Prelude.{◌≡◌, ℕ, ◌+◌, ◌≤◌, List, [], ◌∷◌, ◌++◌, length}
use Rattle.csv.specs.Reading.{strip_bom}
use Rattle.ordup_audit.specs.Records.{RecordState}
use Rattle.ordup_series.specs.Audits.{AreValidSeries, IsSeriesVerdict, IsWholeCertified, IsWholeVerdict, NoFewerRoundsOfWhole, rounds_of}
use Rattle.ordup_series.specs.declared.verdict.SeriesVerdict.{SeriesVerdict}
use Rattle.ordup_series.specs.declared.verdict.SeriesVerdict.TheVariants.{Fewest, No}
use Rattle.ordup_check.specs.SeriesReading.{IsMalformedAfter, TextBeginsSeries, TextTellsSeries, Within}
use Rattle.ordup_check.specs.declared.reading.RecordReadFault.{RecordReadFault}
use Rattle.ordup_check.specs.declared.reading.RecordReadFault.TheVariants as of_record
use Rattle.ordup_check.specs.declared.series.SeriesReadFault.{SeriesReadFault}
use Rattle.ordup_check.specs.declared.series.SeriesReadFault.TheVariants as of_series
use Rattle.ordup_check.specs.declared.sizes.TheConstants.{MOST_SERIES_BYTES}

-- The text tells just these records: each is valid and begins with what the one before ends with, the whole is certified, and no schedule
-- of it that keeps the limits has fewer rounds. Or it begins with records that are such a series and with one more, against which there
-- is this reason, and no series that begins with these is certified as a whole.
abbrev pub JudgesText : List ℕ → SeriesVerdict → Type 0
JudgesText text (Fewest n) =
    (records : List RecordState) × (length text ≤ MOST_SERIES_BYTES) × TextTellsSeries (strip_bom text) records
    × AreValidSeries records × (n ≡ rounds_of records) × IsWholeCertified records × NoFewerRoundsOfWhole records n
JudgesText text (No place row why) =
    (done : List RecordState) × (r : RecordState) × Within MOST_SERIES_BYTES (λ t. TextBeginsSeries t (done ++ r ∷ [])) text
    × AreValidSeries done × IsSeriesVerdict done r (No place row why) × IsWholeVerdict done r (No place row why)

-- the text has a record that is malformed at a row, after others that are a valid series
abbrev pub IsMalformedSeries : List ℕ → ℕ → ℕ → Type 0
IsMalformedSeries text place row =
    (done : List RecordState) × AreValidSeries done × (place ≡ length done + 1)
    × Within MOST_SERIES_BYTES (λ t. IsMalformedAfter t done row) text

-- the fault of reading a record of a series
abbrev pub series_fault : RecordReadFault → ℕ → SeriesReadFault
series_fault of_record.Read place = of_series.Read
series_fault (of_record.Malformed row) place = of_series.Malformed place row
series_fault of_record.NoMemory place = of_series.NoMemory
