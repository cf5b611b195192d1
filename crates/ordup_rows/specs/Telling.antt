-- Which rows tell a record, and which row is the first that keeps rows from doing so.
use Rattle.std.specs.Prelude.{◌≡◌, ◌⊎◌, ℕ, ◌+◌, ◌-◌, ◌<◌, ◌≤◌, List, length, take, ◌++◌}
use Rattle.ordup_audit.specs.Records.{RecordState, IsRecord}
use Rattle.ordup_rows.specs.Rows.{Row, rows_in}
use Rattle.ordup_rows.specs.Versions.{CanTell}
use Rattle.ordup_rows.specs.declared.version.Version.{Version}

-- The rows tell this record, in a version that can tell its limits. Each value has one spelling as a column of a version, so rows
-- obey the format just where they tell a record.
pub record Tells (rows : List Row) (r : RecordState) : Type 0 where
  pub valid : IsRecord r
  pub version : Version
  pub limits : CanTell version r.limits
  pub same : rows ≡ rows_in version r

-- the rows begin a record, and so break no rule: with some more rows they tell one
abbrev pub BeginARecord : List Row → Type 0
BeginARecord rows = (r : RecordState) × (more : List Row) × Tells (rows ++ more) r

-- row n, counted from 1, is the first that breaks a rule: all before it begin a record, and with it they do not
abbrev pub IsBadRow : List Row → ℕ → Type 0
IsBadRow rows n = (0 < n) × (n ≤ length rows) × BeginARecord (take (n - 1) rows) × (BeginARecord (take n rows) → ⊥)

-- n is the number after the last row, and rows are missing: all begin a record, and by themselves they tell none
abbrev pub IsMissingRow : List Row → ℕ → Type 0
IsMissingRow rows n = (n ≡ length rows + 1) × BeginARecord rows × ((r : RecordState) → Tells rows r → ⊥)

-- the row at which rows are found to tell no record
abbrev pub IsFirstBadRow : List Row → ℕ → Type 0
IsFirstBadRow rows n = IsBadRow rows n ⊎ IsMissingRow rows n
