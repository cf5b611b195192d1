-- The laws of rows that are read one after another.
use Rattle.std.specs.Prelude.{◌≡◌, ◌⊎◌, ℕ, ◌+◌, List, ◌∷◌, ◌++◌, length, Some, None}
use Rattle.ordup_audit.specs.Records.{IsRecord, RecordState}
use Rattle.ordup_rows.specs.Rows.{Row, rows_in}
use Rattle.ordup_rows.specs.Stages.{Stage, step, run, closed, record_read, unread}
use Rattle.ordup_rows.specs.Telling.{BeginARecord, IsFirstBadRow, Tells}
use Rattle.ordup_rows.specs.Versions.{CanTell}
use Rattle.ordup_rows.specs.declared.version.Version.{Version}

-- reading is sound: rows that are read to the end tell what was read
abbrev pub ReadingIsSound : Type 0
ReadingIsSound = (rows : List Row) (r : RecordState) → record_read rows ≡ Some r → Tells rows r

-- and complete: rows that tell a record are read to the end as it
abbrev pub ReadingIsComplete : Type 0
ReadingIsComplete = (rows : List Row) (r : RecordState) → Tells rows r → record_read rows ≡ Some r

-- The rows of a record are read as it in each version that can tell its limits. So rows of both versions are read as the same
-- record where all its limits hold from place 1 on.
abbrev pub RowsOfEachVersionAreRead : Type 0
RowsOfEachVersionAreRead =
    (version : Version) (r : RecordState) → IsRecord r → CanTell version r.limits → record_read (rows_in version r) ≡ Some r

-- so rows tell no two records
abbrev pub RowsTellOneRecord : Type 0
RowsTellOneRecord = (rows : List Row) (r q : RecordState) → Tells rows r → Tells rows q → r ≡ q

-- rows that were taken begin a record
abbrev pub TakenRowsBeginARecord : Type 0
TakenRowsBeginARecord = (rows : List Row) (stage : Stage) → run unread rows ≡ Some stage → BeginARecord rows

-- a row that is not taken is the first bad one, whatever comes after it
abbrev pub FirstRowNotTakenIsBad : Type 0
FirstRowNotTakenIsBad =
    (rows : List Row) (row : Row) (more : List Row) (stage : Stage) → run unread rows ≡ Some stage → step stage row ≡ None →
    IsFirstBadRow (rows ++ row ∷ more) (length rows + 1)

-- rows that are taken, and are no record, miss a row
abbrev pub IncompleteRecordsMissARow : Type 0
IncompleteRecordsMissARow =
    (rows : List Row) (stage : Stage) → run unread rows ≡ Some stage → closed stage ≡ None → IsFirstBadRow rows (length rows + 1)

-- rows tell a record, or have a first bad row
abbrev pub RowsTellARecordOrHaveABadRow : Type 0
RowsTellARecordOrHaveABadRow = (rows : List Row) → ((r : RecordState) × Tells rows r) ⊎ ((n : ℕ) × IsFirstBadRow rows n)

-- never both
abbrev pub RowsOfARecordHaveNoBadRow : Type 0
RowsOfARecordHaveNoBadRow = (rows : List Row) (r : RecordState) (n : ℕ) → Tells rows r → IsFirstBadRow rows n → ⊥

-- and no two first bad rows
abbrev pub RowsHaveOneFirstBadRow : Type 0
RowsHaveOneFirstBadRow = (rows : List Row) (m n : ℕ) → IsFirstBadRow rows m → IsFirstBadRow rows n → m ≡ n
