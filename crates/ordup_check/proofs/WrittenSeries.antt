-- The texts of records, one behind the other, are read as their rows.
use Rattle.ordup_audit.proofs.Common.{◌++◌, ◌∙◌, ◌∷◌, ◌≡◌, [], All, ap, append_assoc, arith, IsRecord, List, None}
use Rattle.ordup_audit.proofs.Common.{RecordState, refl, subst, suc, sym}
use Rattle.csv.specs.Machine.{next_record}
use Rattle.csv.specs.Reading.{Reached, default_config, strip_bom}
use Rattle.csv.specs.Writing.{is_blank, read_back}
use Rattle.csv.specs.declared.parser.State.TheVariants as st
use Rattle.csv.proofs.RoundTrip.{read-write}
use Rattle.ordup_rows.specs.Forming.{csv_text}
use Rattle.ordup_rows.specs.Rows.{Row, row_line, rows_of, rows_text}
use Rattle.ordup_rows.specs.Texts.{HasRows}
use Rattle.ordup_rows.specs.Versions.{version_for}
use Rattle.ordup_rows.proofs.PlainLemmas.{IsLine, lines}
use Rattle.ordup_rows.proofs.Versions.{can_tell-for}
use Rattle.ordup_check.specs.SeriesLaws.{WrittenSeriesAreTold, texts_of}
use Rattle.ordup_check.specs.SeriesReading.{AreRowsOf}
use Rattle.ordup_check.proofs.SeriesTexts.{lines_of_all}

-- ---- lines are read as their rows

read_as_line : (row : Row) → IsLine row → read_back row ≡ row
unfolding is_blank
read_as_line [] is = absurd (cc (is.text))
read_as_line (column ∷ columns) is = refl

reaches : (rows : List Row) → All IsLine rows → Reached default_config st.StartRecord (csv_text rows) rows st.StartRecord []
unfolding Reached
reaches [] are = (refl, refl)
reaches (row ∷ rows) are = (
  (read_back row, st.StartRecord, csv_text rows),
  read-write row (csv_text rows),
  sym (read_as_line row (are 0 row (omega arith))),
  reaches rows (λ k d lt. are (suc k) d (omega arith)),
)

no_more : next_record default_config st.StartRecord [] [] [] ≡ None
unfolding next_record
no_more = refl

-- ---- the rows of all records

abbrev all_rows : List RecordState → List Row
all_rows [] = []
all_rows (r ∷ more) = rows_of r ++ all_rows more

rows_of_all : (records : List RecordState) → All IsRecord records → AreRowsOf (all_rows records) records
rows_of_all [] are = refl
rows_of_all (r ∷ more) are = (
  rows_of r,
  all_rows more,
  refl,
  record { valid = are 0 r (omega arith); version = version_for r.limits; limits = can_tell-for r.limits; same = refl },
  rows_of_all more (λ k d lt. are (suc k) d (omega arith)),
)

text-append : (a b : List Row) → rows_text (a ++ b) ≡ rows_text a ++ rows_text b
text-append [] b = refl
text-append (row ∷ a) b = ap (λ t. row_line row ++ t) (text-append a b) ∙ sym (append_assoc (row_line row) (rows_text a) (rows_text b))

text_of_all : (records : List RecordState) → rows_text (all_rows records) ≡ texts_of records
text_of_all [] = refl
text_of_all (r ∷ more) = text-append (rows_of r) (all_rows more) ∙ ap (λ t. rows_text (rows_of r) ++ t) (text_of_all more)

-- they begin with no byte order mark
no_mark : (records : List RecordState) → strip_bom (texts_of records) ≡ texts_of records
unfolding strip_bom
no_mark [] = refl
no_mark (r ∷ more) = refl

pub written_series_are_told : WrittenSeriesAreTold
written_series_are_told records are =
    let rows = rows_of_all records are in
    let line = lines_of_all (all_rows records) records rows in
    let text : csv_text (all_rows records) ≡ strip_bom (texts_of records) =
    lines (all_rows records) line ∙ (text_of_all records ∙ sym (no_mark records)) in
    (all_rows records, subst (λ t. HasRows t (all_rows records)) text (st.StartRecord, [], reaches (all_rows records) line, no_more), rows)
