-- Rows as the crate `csv` writes them.
use Rattle.std.specs.Prelude.{◌≡◌, ℕ, false, List, [], ◌∷◌, ◌++◌, length, map, Option, Some, option_map, Vec}
use Rattle.std.specs.Io.KnownBytes.{Appends}
use Rattle.csv.specs.Writing.{default_writer, fields_written, has_written, row_text, text_written, writer_pending, writer_setup}
use Rattle.csv.specs.Writing.{writer_under}
use Rattle.csv.specs.declared.writer.Writer.{Writer}
use Rattle.ordup_audit.specs.Records.{RecordState}
use Rattle.ordup_rows.specs.Rows.{Row, change_rows, counted, first_row, limit_row, member_rows, object_row, report_row, round_row}
use Rattle.ordup_rows.specs.Rows.{window_row}
use Rattle.ordup_rows.specs.declared.version.Version.{Version}

-- the text of rows, each as `csv` writes it
abbrev pub csv_text : List Row → List ℕ
csv_text [] = []
csv_text (row ∷ rows) = row_text default_writer row ++ csv_text rows

-- a writer that stands between two rows
pub record IsClean {A : Type 0} (w : Writer (Vec ℕ A)) : Type 0 where
  pub fields : fields_written w ≡ 0
  pub wrote : has_written w ≡ false
  pub setup : writer_setup w ≡ default_writer

-- what was written so far
abbrev pub text_so_far : {A : Type 0} → Writer (Vec ℕ A) → Option (List ℕ)
text_so_far w = text_written (λ v. Some v.items) w

-- one row was written
abbrev pub AddsRow : {A : Type 0} → Writer (Vec ℕ A) → Writer (Vec ℕ A) → Row → Type 0
AddsRow old new row = text_so_far new ≡ option_map (λ t. t ++ row_text default_writer row) (text_so_far old)

-- these rows were written, one after the other
abbrev pub AddsRows : {A : Type 0} → Writer (Vec ℕ A) → Writer (Vec ℕ A) → List Row → Type 0
AddsRows old new rows = text_so_far new ≡ option_map (λ t. t ++ csv_text rows) (text_so_far old)

-- ---- rows that are sent as they are formed

-- the rows that stand before those of the changes
abbrev pub first_rows : Version → RecordState → List Row
first_rows version r =
    first_row version r.site (length r.sets)
    ∷ (counted object_row 1 r.objects
    ++ member_rows r.objects 1 r.groups
    ++ counted (limit_row version r.objects r.groups) 1 r.limits)

-- the rows of the changes, and those after them
abbrev pub last_rows : RecordState → List Row
last_rows r =
    change_rows r.objects 1 r.sets ++ map report_row r.reports ++ counted round_row 1 r.rounds ++ counted window_row 1 r.windows

-- the text of the rows that were formed and not sent
abbrev pub unsent : {A : Type 0} → Writer (Vec ℕ A) → List ℕ
unsent w = (writer_under w).items ++ writer_pending w

-- of this text a prefix was sent, and this is left
abbrev pub SendsUpto : Option (List ℕ) → Option (List ℕ) → List ℕ → List ℕ → Type 0
SendsUpto old new text left = (front : List ℕ) × (text ≡ front ++ left) × Appends old new front
