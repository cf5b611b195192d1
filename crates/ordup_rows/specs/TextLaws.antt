-- The laws of texts that are read as rows.
use Rattle.std.specs.Prelude.{◌≡◌, ◌≤◌, ℕ, List, length}
use Rattle.csv.specs.Reading.{strip_bom}
use Rattle.ordup_audit.specs.Records.{IsRecord, RecordState}
use Rattle.ordup_rows.specs.Rows.{Row, rows_of, rows_text}
use Rattle.ordup_rows.specs.Sizes.{most_record_bytes}
use Rattle.ordup_rows.specs.Texts.{HasRows, IsMalformedAt, TextTells}

-- a text has one list of rows
abbrev pub TextsHaveOneListOfRows : Type 0
TextsHaveOneListOfRows = (text : List ℕ) (rows more : List Row) → HasRows text rows → HasRows text more → rows ≡ more

-- the text of a record has its rows
abbrev pub WrittenTextsHaveTheirRows : Type 0
WrittenTextsHaveTheirRows = (r : RecordState) → IsRecord r → HasRows (strip_bom (rows_text (rows_of r))) (rows_of r)

-- so it tells the record
abbrev pub WrittenTextsTellTheirRecord : Type 0
WrittenTextsTellTheirRecord = (r : RecordState) → IsRecord r → TextTells (strip_bom (rows_text (rows_of r))) r

-- and is within the limit of what is read
abbrev pub WrittenTextsAreWithinTheLimit : Type 0
WrittenTextsAreWithinTheLimit = (r : RecordState) → IsRecord r → length (rows_text (rows_of r)) ≤ most_record_bytes

-- a text tells no two records
abbrev pub TextsTellOneRecord : Type 0
TextsTellOneRecord = (text : List ℕ) (r q : RecordState) → TextTells text r → TextTells text q → r ≡ q

-- a text that tells a record has no bad row
abbrev pub TextsOfARecordAreNotMalformed : Type 0
TextsOfARecordAreNotMalformed = (text : List ℕ) (r : RecordState) (n : ℕ) → TextTells text r → IsMalformedAt text n → ⊥

-- and a text has no two first bad rows
abbrev pub TextsAreMalformedAtOneRow : Type 0
TextsAreMalformedAtOneRow = (text : List ℕ) (m n : ℕ) → IsMalformedAt text m → IsMalformedAt text n → m ≡ n
