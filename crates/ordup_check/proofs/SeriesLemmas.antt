-- The records of a series as they are read, one after another.
use Rattle.ordup_audit.proofs.Common.{◌++◌, ◌+◌, ◌-◌, ◌∙◌, ◌∷◌, ◌≡◌, ◌≤◌, [], ap, append-nil, append_assoc, arith, cases_lt, false, false≢true, inl, inr}
use Rattle.ordup_audit.proofs.Common.{length, length-append, length_push, List, None, Ok, Option, option_and_then, RecordState, refl, Some, subst, sym, take}
use Rattle.ordup_audit.proofs.Common.{take-append-le}
use Rattle.ordup_audit.proofs.Common.{take_all, true, ℕ}
use Rattle.std.specs.Prelude.{◌≢◌, codes, slice_index_or}
use Rattle.csv.specs.Reading.{Reached, default_config, reader_state, strip_bom}
use Rattle.csv.specs.declared.parser.State.TheVariants as st
use Rattle.csv.specs.declared.reader.Reader.{Reader}
use Rattle.ordup_rows.specs.Rows.{Row, rows_in}
use Rattle.ordup_rows.specs.Stages.{Stage, closed, run, step, unread}
use Rattle.ordup_rows.specs.Telling.{BeginARecord, Tells}
use Rattle.ordup_rows.specs.Texts.{BeginsWithRows, HasRows}
use Rattle.ordup_rows.proofs.Beginnings.{taken_rows_begin_a_record}
use Rattle.ordup_rows.proofs.Columns.{bound}
use Rattle.ordup_series.proofs.AuditLemmas.{not-empty}
use Rattle.ordup_rows.proofs.ReadingBack.{reading_is_complete}
use Rattle.ordup_rows.proofs.Running.{reading_is_sound}
use Rattle.std.specs.Str.{bytes_eq}
use Rattle.csv.specs.Records.{field_at, fields_of}
use Rattle.ordup_check.specs.Limits.{cut_at}
use Rattle.ordup_check.specs.Reading.{AllCame, EndsAt, HasRead, IsFresh, IsPlain, begins_record}
use Rattle.ordup_check.specs.SeriesReading.{AreRowsOf, BeginsNext, IsBadRowOfPart, IsMalformedAfter, NextBegins, NextRecord}
use Rattle.ordup_check.specs.SeriesReading.{TextBeginsSeries, StandsBefore, TextTellsSeries, Within, limited_bytes, passed, short_bytes}
use Rattle.ordup_check.specs.declared.limited.Limited.{Limited}
use Rattle.ordup_check.specs.declared.short_rows.ShortRows.{ShortRows}
use Rattle.ordup_check.specs.declared.reading.RowsEnd.TheVariants as end
use Rattle.ordup_check.specs.declared.series_reader.SeriesReader.{SeriesReader}
use Rattle.ordup_check.specs.declared.series_reader.Position.{Position}
use Rattle.ordup_check.specs.declared.series_reader.Position.TheVariants as at
use Rattle.ordup_check.specs.ShortRows.{from_row}
use Rattle.ordup_check.proofs.CutRows.{cut_rows}
use Rattle.ordup_check.proofs.Cuts.{long_is, short_is}
use Rattle.ordup_check.proofs.LimitLemmas.{cut_is_not_all}
use Rattle.ordup_check.proofs.LongRowLemmas.{mark_passes, short_all}
use Rattle.ordup_check.proofs.ReadSteps.{begins, not-taken}
use Rattle.ordup_check.proofs.SameRows.{first_of_all, one_place, one_row}

-- ---- rows of records

-- the rows of one record more
pub rows_of-push : (before rows : List Row) (records : List RecordState) (r : RecordState) → AreRowsOf before records → Tells rows r
    → AreRowsOf (before ++ rows) (records ++ r ∷ [])
rows_of-push before rows [] r are tells =
    (rows, [], ap (λ l. l ++ rows) are ∙ sym (append-nil rows), tells, refl)
rows_of-push before rows (q ∷ records) r (part, rest, is, told, others) tells = (
  part,
  rest ++ rows,
  ap (λ l. l ++ rows) is ∙ append_assoc part rest rows,
  told,
  rows_of-push rest rows records r others tells,
)

-- ---- a text within a limit

pub within-map : (limit : ℕ) (text : List ℕ) (P Q : List ℕ → Type 0) → ((t : List ℕ) → P t → Q t) → Within limit P text → Within limit Q text
within-map limit text P Q h (inl (short, is)) = inl (short, h (strip_bom text) is)
within-map limit text P Q h (inr (long, is)) = inr (long, λ rest. h (strip_bom (take limit text ++ rest)) (is rest))

-- the first rows that came are the first ones of the text
rows_within : (limit : ℕ) (text : List ℕ) (row : Row) (rows : List Row) → BeginsWithRows (passed limit text) (row ∷ rows)
    → AllCame (row ∷ rows)
    → Within limit (λ t. BeginsWithRows (from_row t) (row ∷ rows)) text
rows_within limit text row rows begins came =
    let there = subst (λ t. BeginsWithRows t (row ∷ rows)) (mark_passes (cut_at limit text)) begins in
    elim (cases_lt limit (length text)) [
      | inl long ↦ inr (long, cut_rows (take limit text) row rows (rw (long_is limit text long) at there) came)
      | inr short ↦ inl (short, rw (short_is limit text short) at there)
    ]

pub push_within : (limit : ℕ) (text : List ℕ) (rows : List Row) (row : Row) → BeginsWithRows (passed limit text) (rows ++ row ∷ [])
    → AllCame (rows ++ row ∷ [])
    → Within limit (λ t. BeginsWithRows (from_row t) (rows ++ row ∷ [])) text
push_within limit text [] row begins came = rows_within limit text row [] begins came
push_within limit text (first ∷ rows) row begins came = rows_within limit text first (rows ++ row ∷ []) begins came

-- all rows that came are all rows of the text, where the last ones begin a record
pub all_within : (limit : ℕ) (text : List ℕ) (before rows : List Row) → BeginARecord rows → (rows ≡ [] → before ≡ [])
    → HasRows (passed limit text) (before ++ rows) → AllCame (before ++ rows)
    → (length text ≤ limit) × HasRows (strip_bom text) (before ++ rows)
all_within limit text before rows begins some has came =
    let there = subst (λ t. HasRows t (before ++ rows)) (mark_passes (cut_at limit text)) has in
    let whole = short_all (strip_bom (cut_at limit text)) before rows begins some there in
    elim (cases_lt limit (length text)) [
      | inl long ↦ absurd (cut_is_not_all (take limit text) (before ++ rows) came (rw (long_is limit text long) at whole))
      | inr short ↦ (short, rw (short_is limit text short) at whole)
    ]

-- ---- the end of a record

tells-closed : (rows : List Row) (stage : Stage) (r : RecordState) → run unread rows ≡ Some stage → closed stage ≡ Some r → Tells rows r
tells-closed rows stage r ran end = reading_is_sound rows r (ap (option_and_then closed) ran ∙ end)

not-told : (rows : List Row) (stage : Stage) → run unread rows ≡ Some stage → closed stage ≡ None → (r : RecordState) → Tells rows r → ⊥
not-told rows stage ran none r tells =
    let (other, ran2, end) = bound closed (run unread rows) r (reading_is_complete rows r tells) in
    absurd cc

-- the row after those of a record, by its number
pub at-end : (rows : List Row) (row : Row) (more : List Row) → slice_index_or (rows ++ row ∷ more) (length rows) [] ≡ row
at-end [] row more = refl
at-end (first ∷ rows) row more = at-end rows row more

back : (rows : List Row) → length rows + 1 - 1 ≡ length rows
back rows = omega (arith)

at-row : (rows : List Row) (row : Row) → slice_index_or (rows ++ row ∷ []) (length rows + 1 - 1) [] ≡ row
at-row rows row = ap (λ k. slice_index_or (rows ++ row ∷ []) k []) (back rows) ∙ at-end rows row []

front-row : (rows : List Row) (row : Row) → take (length rows + 1 - 1) (rows ++ row ∷ []) ≡ rows
front-row rows row =
    ap (λ k. take k (rows ++ row ∷ [])) (back rows)
    ∙ (take-append-le (length rows) rows (row ∷ []) (omega (arith)) ∙ take_all (length rows) rows (omega (arith)))

-- ---- the next row of a text

pub no_records : (records : List RecordState) → AreRowsOf [] records → records ≡ []
no_records [] are = refl
no_records (r ∷ more) (part, rest, is, tells, others) = let some : [] ≡ rows_in tells.version r ++ rest = rw tells.same at is in absurd cc

is_nil : (rows : List Row) → (rows ≢ [] → ⊥) → rows ≡ []
is_nil [] some = refl
is_nil (row ∷ rows) some = absurd (some (λ none. absurd cc))

module _ (text : List ℕ) (before : List Row) (next : NextBegins text before) where
  -- these are not all rows of the text
  goes_on : HasRows text (before ++ []) → before ≢ [] → ⊥
  goes_on (u, y, all, none) some =
      let (row, (t, x, first), begins) = next some in
      let (more, is) = first_of_all (before ++ row ∷ []) (before ++ []) st.StartRecord t u text x y first all none in
      omega (arith, ap length is, length-append (before ++ row ∷ []) more, length-append before [], length_push before row)

  alone : (rows : List Row) → HasRows text (before ++ rows) → rows ≡ [] → before ≡ []
  alone rows has none = is_nil before (goes_on (subst (λ l. HasRows text (before ++ l)) none has))

  module _ (records : List RecordState) (are : AreRowsOf before records) where
    some_before : records ≢ [] → before ≢ []
    some_before some none = some (no_records records (subst (λ l. AreRowsOf l records) none are))

    -- so the next rows begin with the first of a record
    first_begins : (first : Row) (more : List Row) → BeginsWithRows text (before ++ first ∷ more) → BeginsNext records (first ∷ more)
    first_begins first more (u, y, all) some =
        let (row, (t, x, one), begins) = next (some_before some) in
        let (v, left, here, rest) = one_place before (row ∷ []) (first ∷ more) st.StartRecord t u text x y one all in
        subst (λ z. begins_record z ≡ true) (one_row row first more v t u left x y here rest) begins

    part_begins : (rows : List Row) (row : Row) → BeginsWithRows text (before ++ (rows ++ row ∷ [])) → BeginsNext records (rows ++ row ∷ [])
    part_begins [] row all = first_begins row [] all
    part_begins (first ∷ rows) row all = first_begins first (rows ++ row ∷ []) all

    all_begin : (rows : List Row) → HasRows text (before ++ rows) → BeginsNext records rows
    all_begin [] has some = absurd (goes_on has (some_before some))
    all_begin (first ∷ rows) (u, y, all, none) some = first_begins first rows (u, y, all) some

module _ {R : Type 0} (rem : R → Option (List ℕ)) (limit : ℕ) (text : List ℕ) (before : List Row) (records : List RecordState)
    (rdr : Reader (ShortRows (Limited R))) (stage : Stage) (row : Row) (n : ℕ) where
  -- the text ends behind a record
  pub last_record : (s : SeriesReader R) (r : RecordState) → AreRowsOf before records
      → EndsAt (short_bytes (limited_bytes rem)) rdr before stage row (passed limit text) (end.Text n)
      → NextBegins (passed limit text) before → closed stage ≡ Some r → s.position ≡ at.End
      → NextRecord rem limit s text records (Ok (Some r))
  last_record s r are (rows, has, came, ran, counted) next end stands =
      let (short, told) = all_within limit text before rows (taken_rows_begin_a_record rows stage ran)
      (alone (passed limit text) before next rows has) has came in
      let tells : TextTellsSeries (strip_bom text) (records ++ r ∷ []) =
      (before ++ rows, told, rows_of-push before rows records r are (tells-closed rows stage r ran end)) in
      (inr (stands, not-empty records r, short, tells), inl (short, inl tells))

  -- the text ends in a record
  pub last_misses : AreRowsOf before records
      → EndsAt (short_bytes (limited_bytes rem)) rdr before stage row (passed limit text) (end.Text n)
      → NextBegins (passed limit text) before → closed stage ≡ None
      → Within limit (λ t. IsMalformedAfter t records n) text
  last_misses are (rows, has, came, ran, counted) next none =
      let begins = taken_rows_begin_a_record rows stage ran in
      let (short, told) = all_within limit text before rows begins (alone (passed limit text) before next rows has) has came in
      let first = all_begin (passed limit text) before next records are rows has in
      inl (short, (before, rows, are, first, inr (told, (sym counted, begins, not-told rows stage ran none))))

  -- a record ends where the first row of the next one stands
  pub record_ends : (s : SeriesReader R) (r : RecordState) → AreRowsOf before records
      → EndsAt (short_bytes (limited_bytes rem)) rdr before stage row (passed limit text) (end.Row n)
      → begins_record row ≡ true → closed stage ≡ Some r → s.position ≡ at.FirstRow → s.rdr ≡ rdr
      → fields_of s.row ≡ row
      → NextRecord rem limit s text records (Ok (Some r))
  record_ends s r are (rows, rest, at, source, reached, came, ran, none, kept, counted) begins end stands same at_hand =
      let told = rows_of-push before rows records r are (tells-closed rows at r ran (subst (λ z. closed z ≡ Some r) (kept begins) end)) in
      let first : BeginsWithRows (passed limit text) ((before ++ rows) ++ row ∷ []) = (reader_state rdr, rest, reached) in (
        inl (before ++ rows, told, rw (stands, same, at_hand) (rest, source, reached, came, begins)),
        within-map limit text (λ t. BeginsWithRows (from_row t) ((before ++ rows) ++ row ∷ []))
            (λ t. TextBeginsSeries t (records ++ r ∷ []))
            (λ t is. inr (before ++ rows, row, is, begins, told))
            (push_within limit text (before ++ rows) row first came),
      )

  -- or a row stands where it may not
  row_misses : AreRowsOf before records
      → EndsAt (short_bytes (limited_bytes rem)) rdr before stage row (passed limit text) (end.Row n)
      → NextBegins (passed limit text) before → (begins_record row ≡ true → closed stage ≡ None)
      → Within limit (λ t. IsMalformedAfter t records n) text
  row_misses are (rows, rest, at, source, reached, came, ran, none, kept, counted) next first_row =
      let first : BeginsWithRows (passed limit text) ((before ++ rows) ++ row ∷ []) = (reader_state rdr, rest, reached) in
      let is_bad : IsBadRowOfPart (rows ++ row ∷ []) n = record {
        bad = rw (← counted) (not-taken rows row at ran none);
        alone = λ begins r tells.
            let first : begins_record row ≡ true =
            subst (λ z. begins_record z ≡ true) (ap (λ k. slice_index_or (rows ++ row ∷ []) (k - 1) []) (sym counted) ∙ at-row rows row)
            begins in
            not-told rows at ran (subst (λ z. closed z ≡ None) (kept first) (first_row first)) r (subst (λ l. Tells l r) (ap (λ k. take (k - 1) (rows ++ row ∷ [])) (sym counted) ∙ front-row rows row) tells);
      } in
      let begins = part_begins (passed limit text) before next records are rows row
      (subst (BeginsWithRows (passed limit text)) (append_assoc before rows (row ∷ [])) first) in
      within-map limit text (λ t. BeginsWithRows (from_row t) ((before ++ rows) ++ row ∷ []))
      (λ t. IsMalformedAfter t records n)
      (λ t is.
      let there = subst (λ l. BeginsWithRows (from_row t) l) (append_assoc before rows (row ∷ [])) is in
      (before, rows ++ row ∷ [], are, begins, inl (there, is_bad)))
      (push_within limit text (before ++ rows) row first came)

  -- it is the first row of a record
  pub next_misses : AreRowsOf before records
      → EndsAt (short_bytes (limited_bytes rem)) rdr before stage row (passed limit text) (end.Row n)
      → NextBegins (passed limit text) before → closed stage ≡ None
      → Within limit (λ t. IsMalformedAfter t records n) text
  next_misses are ends next none = row_misses are ends next (λ begins. none)

  -- or it is none
  pub row_is_bad : AreRowsOf before records
      → EndsAt (short_bytes (limited_bytes rem)) rdr before stage row (passed limit text) (end.Row n)
      → NextBegins (passed limit text) before → begins_record row ≡ false
      → Within limit (λ t. IsMalformedAfter t records n) text
  row_is_bad are ends next begins = row_misses are ends next (λ is. absurd (false≢true (sym begins ∙ is)))

-- ---- the start of a record

-- where rows come before it, the first row is at hand
pub stands_at_a_first_row : {R : Type 0} (rem : R → Option (List ℕ)) (position : Position) (rdr : Reader R) (row : Row) (text : List ℕ)
    (before : List Row) → StandsBefore rem position rdr row text before → NextBegins text before
stands_at_a_first_row rem at.Start rdr row text before (none, source, state) some = absurd (some none)
stands_at_a_first_row rem at.FirstRow rdr row text before (rest, source, reached, came, begins) some =
    (row, (reader_state rdr, rest, reached), begins)
stands_at_a_first_row rem at.End rdr row text before none some = absurd none

module _ {R : Type 0} (rem : R → Option (List ℕ)) (rdr : Reader R) (row : Row) (text : List ℕ) (before : List Row) where
  -- nothing was read
  pub starts : (stage : Stage) → IsPlain rdr → StandsBefore rem at.Start rdr row text before → stage ≡ unread
      → HasRead rem rdr before stage 0 text
  starts stage plain (none, source, state) is =
      let fresh : IsFresh rdr = record { plain = plain.trim; ready = plain.ready; config = plain.config; state = state } in
      rw (none, is) (begins rem rdr text source fresh)

  -- the first row is taken
  pub first_row : (stage : Stage) → StandsBefore rem at.FirstRow rdr row text before → step unread row ≡ Some stage
      → HasRead rem rdr before stage 1 text
  first_row stage (rest, source, reached, came, begins) taken =
      (row ∷ [], rest, source, reached, came, ap (option_and_then (λ t. run t [])) taken, refl)

  -- or it is not
  pub first_row_stops : (stage : Stage) → StandsBefore rem at.FirstRow rdr row text before → step unread row ≡ None
      → (begins_record row ≡ true → stage ≡ unread)
      → EndsAt rem rdr before stage row text (end.Row 1)
  first_row_stops stage (rest, source, reached, came, begins) none kept =
      let same : before ++ row ∷ [] ≡ before ++ [] ++ row ∷ [] = ap (λ l. l ++ row ∷ []) (sym (append-nil before)) in (
        [],
        rest,
        unread,
        source,
        subst (λ l. Reached default_config st.StartRecord text l (reader_state rdr) rest) same reached,
        subst AllCame same came,
        refl,
        none,
        kept,
        refl,
      )

-- ---- the first column

pub first-some : (row : Row) (kind : List ℕ) → Some kind ≡ field_at row 0 → begins_record row ≡ bytes_eq kind (codes "ordup")
unfolding field_at
first-some [] kind is = absurd cc
first-some (column ∷ more) kind is =
    let same : column ≡ kind = cc in
    ap (λ k. bytes_eq k (codes "ordup")) same

pub first-none : (row : Row) → None ≡ field_at row 0 → false ≡ begins_record row
unfolding field_at
first-none [] is = refl
first-none (column ∷ more) is = absurd cc
