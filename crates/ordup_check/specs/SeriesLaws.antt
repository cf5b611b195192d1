-- The laws of texts that tell records, one after another.
use Rattle.std.specs.Prelude.{◌≡◌, ◌≢◌, All, ℕ, List, [], ◌∷◌, ◌++◌}
use Rattle.csv.specs.Reading.{strip_bom}
use Rattle.ordup_audit.specs.Records.{IsRecord, RecordState}
use Rattle.ordup_rows.specs.Rows.{rows_of, rows_text}
use Rattle.ordup_check.specs.SeriesReading.{IsMalformedAfter, TextTellsSeries}

-- a text tells one series of records
abbrev pub TextsTellOneSeries : Type 0
TextsTellOneSeries = (text : List ℕ) (records others : List RecordState) → TextTellsSeries text records → TextTellsSeries text others → records ≡ others

-- and where it tells one, it is malformed after none of its records
abbrev pub TextsOfASeriesAreNotMalformed : Type 0
TextsOfASeriesAreNotMalformed =
    (text : List ℕ) (records done : List RecordState) (n : ℕ) → records ≢ [] → TextTellsSeries text records → IsMalformedAfter text done n → ⊥

-- the texts of these records, as each is written, one behind the other
abbrev pub texts_of : List RecordState → List ℕ
texts_of [] = []
texts_of (r ∷ more) = rows_text (rows_of r) ++ texts_of more

-- what is written of records tells them
abbrev pub WrittenSeriesAreTold : Type 0
WrittenSeriesAreTold = (records : List RecordState) → All IsRecord records → TextTellsSeries (strip_bom (texts_of records)) records
