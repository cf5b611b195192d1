-- The records of a series as a text tells them, and how far a reader of them came.
use Rattle.std.specs.Prelude.{◌≡◌, ◌≢◌, ◌⊎◌, ⊤, ℕ, ◌-◌, ◌<◌, ◌≤◌, true, List, [], ◌∷◌, ◌++◌, length, take}
use Rattle.std.specs.Prelude.{if◌then◌else◌, slice_index_or, Option, Some, None, option_map, Result, Ok, Err}
use Rattle.csv.specs.Reading.{Reached, default_config, reader_state, source_of, strip_bom}
use Rattle.csv.specs.Records.{fields_of}
use Rattle.csv.specs.declared.parser.State.TheVariants as st
use Rattle.ordup_audit.specs.Records.{RecordState}
use Rattle.ordup_rows.specs.Rows.{Row}
use Rattle.ordup_rows.specs.Telling.{IsBadRow, IsMissingRow, Tells}
use Rattle.ordup_rows.specs.Texts.{BeginsWithRows, HasRows}
use Rattle.ordup_check.specs.Limits.{cut_at, never}
use Rattle.ordup_check.specs.Reading.{AllCame, begins_record}
use Rattle.ordup_check.specs.ShortRows.{ends_at_long_row, from_row, most_row_bytes}
use Rattle.ordup_check.specs.declared.reading.RecordReadFault.{RecordReadFault}
use Rattle.ordup_check.specs.declared.reading.RecordReadFault.TheVariants as fault
use Rattle.ordup_check.specs.declared.series_reader.SeriesReader.{SeriesReader}
use Rattle.ordup_check.specs.declared.series_reader.Position.{Position}
use Rattle.ordup_check.specs.declared.series_reader.Position.TheVariants as at
use Rattle.ordup_check.specs.declared.limited.Limited.{Limited}
use Rattle.ordup_check.specs.declared.short_rows.ShortRows.{ShortRows}
use Rattle.csv.specs.declared.reader.Reader.{Reader}
use Rattle.ordup_check.specs.declared.short_rows.RowState.TheVariants as row

-- ---- rows of records

-- these are the rows of these records, one record after the other
abbrev pub AreRowsOf : List Row → List RecordState → Type 0
AreRowsOf rows [] = rows ≡ []
AreRowsOf rows (r ∷ more) = (part : List Row) × (rest : List Row) × (rows ≡ part ++ rest) × Tells part r × AreRowsOf rest more

-- row n of a record's is the first that breaks a rule; and it does not stand after a whole record as the first of the next one
pub record IsBadRowOfPart (part : List Row) (n : ℕ) : Type 0 where
  pub bad : IsBadRow part n
  pub alone : begins_record (slice_index_or part (n - 1) []) ≡ true → (r : RecordState) → Tells (take (n - 1) part) r → ⊥

-- ---- texts of records

-- the text tells these records, one after the other, and nothing else
abbrev pub TextTellsSeries : List ℕ → List RecordState → Type 0
TextTellsSeries text records = (rows : List Row) × HasRows text rows × AreRowsOf rows records

-- The text begins with these records: then it ends, or a row follows that is the first of the next one. Of a row that is too long as
-- much counts as is read of it.
abbrev pub TextBeginsSeries : List ℕ → List RecordState → Type 0
TextBeginsSeries text records =
    TextTellsSeries text records
    ⊎ ((rows : List Row) × (r : Row) × BeginsWithRows (from_row text) (rows ++ r ∷ []) × (begins_record r ≡ true) × AreRowsOf rows records)

-- where records come before it, a part begins with the first row of the next one
abbrev pub BeginsNext : List RecordState → List Row → Type 0
BeginsNext records part = records ≢ [] → begins_record (slice_index_or part 0 []) ≡ true

-- After these records the next one of the text is malformed at row n. It begins where the last of them ends.
abbrev pub IsMalformedAfter : List ℕ → List RecordState → ℕ → Type 0
IsMalformedAfter text records n =
    (before : List Row) × (part : List Row) × AreRowsOf before records × BeginsNext records part
    × ((BeginsWithRows (from_row text) (before ++ part) × IsBadRowOfPart part n)
    ⊎ (HasRows text (before ++ part) × IsMissingRow part n))

-- This is so of a text within the limit, without a byte order mark at its start; of a longer one it is so however the text goes on
-- after the limit.
abbrev pub Within : ℕ → (List ℕ → Type 0) → List ℕ → Type 0
Within limit P text =
    ((length text ≤ limit) × P (strip_bom text))
    ⊎ ((limit < length text) × ((rest : List ℕ) → P (strip_bom (take limit text ++ rest))))

-- ---- a reader

-- the bytes that come of a reader within a limit, and those that come up to a row that is too long
abbrev pub limited_bytes : {R : Type 0} → (R → Option (List ℕ)) → Limited R → Option (List ℕ)
limited_bytes rem r = if r.is_over then Some (never ∷ []) else option_map (cut_at r.left) (rem r.input)

abbrev pub short_bytes : {R : Type 0} → (R → Option (List ℕ)) → ShortRows R → Option (List ℕ)
short_bytes rem r = if r.is_ended then Some [] else option_map (ends_at_long_row r.state r.left) (rem r.input)

-- what comes of a text within a limit
abbrev pub passed : ℕ → List ℕ → List ℕ
passed limit text = strip_bom (ends_at_long_row row.Text most_row_bytes (cut_at limit text))

-- Before it reads the next record the reader stands behind the rows of whole ones: it has read nothing; or it has the first row of the
-- next one at hand.
abbrev pub StandsBefore : {R : Type 0} → (R → Option (List ℕ)) → Position → Reader R → Row → List ℕ → List Row → Type 0
StandsBefore rem at.Start rdr row text before = (before ≡ []) × (source_of rem rdr ≡ Some text) × (reader_state rdr ≡ st.StartRecord)
StandsBefore rem at.FirstRow rdr row text before =
    (rest : List ℕ) × (source_of rem rdr ≡ Some rest)
    × Reached default_config st.StartRecord text (before ++ row ∷ []) (reader_state rdr) rest
    × AllCame (before ++ row ∷ []) × (begins_record row ≡ true)
StandsBefore rem at.End rdr row text before = ⊥

-- where rows come before it, the next row of the text is the first of a record
abbrev pub NextBegins : List ℕ → List Row → Type 0
NextBegins text before = before ≢ [] → (row : Row) × BeginsWithRows text (before ++ row ∷ []) × (begins_record row ≡ true)

-- a reader of the records of a text within a limit has read just these: it stands before the next one, or the text has ended
abbrev pub HasReadRecords : {R : Type 0} → (R → Option (List ℕ)) → ℕ → SeriesReader R → List ℕ → List RecordState → Type 0
HasReadRecords rem limit s text records =
    ((before : List Row) × AreRowsOf before records
    × StandsBefore (short_bytes (limited_bytes rem)) s.position s.rdr (fields_of s.row) (passed limit text) before)
    ⊎ ((s.position ≡ at.End) × (records ≢ []) × (length text ≤ limit) × TextTellsSeries (strip_bom text) records)

-- What the next record of a text is, after these: a record, behind which the reader stands; none, since these are all; or a fault, and
-- where it is a row, that row is malformed.
abbrev pub NextRecord : {R : Type 0} → (R → Option (List ℕ)) → ℕ → SeriesReader R → List ℕ → List RecordState
    → Result (Option RecordState) RecordReadFault → Type 0
NextRecord rem limit s text records (Ok (Some r)) =
    HasReadRecords rem limit s text (records ++ r ∷ []) × Within limit (λ t. TextBeginsSeries t (records ++ r ∷ [])) text
NextRecord rem limit s text records (Ok None) = (records ≢ []) × (length text ≤ limit) × TextTellsSeries (strip_bom text) records
NextRecord rem limit s text records (Err (fault.Malformed n)) = Within limit (λ t. IsMalformedAfter t records n) text
NextRecord rem limit s text records (Err e) = ⊤
