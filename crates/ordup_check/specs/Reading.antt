-- A reader of a text, and how far it came.
use Rattle.std.specs.Prelude.{◌≡◌, ℕ, ◌+◌, ◌==◌, Bool, true, false, List, [], ◌∷◌, ◌++◌, codes, length, slice_index_or, Option, Some, None}
use Rattle.std.specs.Str.{bytes_eq}
use Rattle.std.specs.List.{list_any}
use Rattle.csv.specs.Reading.{Reached, Ready, default_config, reader_config, reader_state, reader_trim, source_of}
use Rattle.csv.specs.declared.parser.State.TheVariants as st
use Rattle.csv.specs.declared.reader.Reader.{Reader}
use Rattle.csv.specs.declared.reader.Trim.TheVariants as trim
use Rattle.ordup_rows.specs.Rows.{Row}
use Rattle.ordup_rows.specs.Stages.{Stage, run, step, unread}
use Rattle.ordup_rows.specs.Telling.{IsBadRow}
use Rattle.ordup_rows.specs.Texts.{BeginsWithRows, HasRows}
use Rattle.ordup_check.specs.Limits.{never}
use Rattle.ordup_check.specs.declared.reading.RowsEnd.{RowsEnd}
use Rattle.ordup_check.specs.declared.reading.RowsEnd.TheVariants as end

-- a row has a byte that never came
abbrev pub has_never : Row → Bool
has_never row = list_any (list_any (λ b. b == never)) row

-- a row is the first of a record: its first column says so
abbrev pub begins_record : Row → Bool
begins_record r = bytes_eq (slice_index_or r 0 []) (codes "ordup")

-- all bytes of the rows came
abbrev pub AllCame : List Row → Type 0
AllCame rows = list_any has_never rows ≡ false

-- all rows of the text came and were taken up to this stage, and n is the number of the row that would be next
abbrev pub IsTaken : List ℕ → Stage → ℕ → Type 0
IsTaken text stage n =
    (rows : List Row) × HasRows text rows × AllCame rows × (run unread rows ≡ Some stage) × (length rows + 1 ≡ n)

-- the first rows of the text came, and row n is the first of them that breaks a rule
abbrev pub HasBadRow : List ℕ → ℕ → Type 0
HasBadRow text n = (rows : List Row) × BeginsWithRows text rows × AllCame rows × IsBadRow rows n

-- rows lead to this stage
abbrev pub IsReached : Stage → Type 0
IsReached stage = (rows : List Row) × (run unread rows ≡ Some stage)

-- The first rows of the text came: these, and after them others that were taken up to this stage. The reader stands behind them.
abbrev pub HasRead : {R : Type 0} → (R → Option (List ℕ)) → Reader R → List Row → Stage → ℕ → List ℕ → Type 0
HasRead rem rdr before stage count text =
    (rows : List Row) × (rest : List ℕ) × (source_of rem rdr ≡ Some rest)
    × Reached default_config st.StartRecord text (before ++ rows) (reader_state rdr) rest × AllCame (before ++ rows)
    × (run unread rows ≡ Some stage) × (length rows ≡ count)

-- The rows after these were taken, and the text ended; or a row came that may not stand there, and the reader stands behind it. The
-- stage is the one after the rows that were taken; after a row that may not stand there it is so where that begins a record.
abbrev pub EndsAt : {R : Type 0} → (R → Option (List ℕ)) → Reader R → List Row → Stage → Row → List ℕ → RowsEnd → Type 0
EndsAt rem rdr before stage row text (end.Text n) =
    (rows : List Row) × HasRows text (before ++ rows) × AllCame (before ++ rows) × (run unread rows ≡ Some stage) × (length rows + 1 ≡ n)
EndsAt rem rdr before stage row text (end.Row n) =
    (rows : List Row) × (rest : List ℕ) × (at : Stage) × (source_of rem rdr ≡ Some rest)
    × Reached default_config st.StartRecord text (before ++ rows ++ row ∷ []) (reader_state rdr) rest
    × AllCame (before ++ rows ++ row ∷ []) × (run unread rows ≡ Some at) × (step at row ≡ None)
    × (begins_record row ≡ true → stage ≡ at) × (length rows + 1 ≡ n)

-- rows lead to the stage at which the reading ended, or to none where the last row begins no record
abbrev pub ReachesEnd : Stage → Row → RowsEnd → Type 0
ReachesEnd stage row (end.Text n) = IsReached stage
ReachesEnd stage row (end.Row n) = begins_record row ≡ true → IsReached stage

-- a reader without a header row
pub record IsPlain {R : Type 0} (rdr : Reader R) : Type 0 where
  pub trim : reader_trim rdr ≡ trim.None
  pub ready : Ready rdr
  pub config : reader_config rdr ≡ default_config

-- a reader without a header row that has read nothing
pub record IsFresh {R : Type 0} (rdr : Reader R) : Type 0 where
  pub plain : reader_trim rdr ≡ trim.None
  pub ready : Ready rdr
  pub config : reader_config rdr ≡ default_config
  pub state : reader_state rdr ≡ st.StartRecord
