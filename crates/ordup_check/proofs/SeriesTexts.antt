-- A text that tells records one after another tells no others, and is malformed after none of them.
use Rattle.ordup_audit.proofs.Common.{◌++◌, ◌+◌, ◌-◌, ◌∙◌, ◌∷◌, ◌≡◌, ◌⊎◌, [], All, All-nil, ap, append-nil, append_assoc, arith, bytes_eq}
use Rattle.ordup_audit.proofs.Common.{cases_lt, codes, drop, false, false≢true, inl, inr, length, length-append, List, list_any, list_any-append}
use Rattle.ordup_audit.proofs.Common.{or_parts, RecordState, refl, Some, subst, suc, sym, take, take-append-drop, take-append-le}
use Rattle.ordup_audit.proofs.Common.{true, ℕ}
use Rattle.std.specs.Prelude.{◌≢◌, slice_index_or}
use Rattle.std.proofs.Math.Seq.{take-append-add, take-append_seam}
use Rattle.std.proofs.lemmas.List.Elements.{All-append}
use Rattle.csv.specs.declared.parser.State.TheVariants as st
use Rattle.ordup_rows.specs.Columns.{columns_of, natural_of}
use Rattle.ordup_rows.specs.RowKinds.{kind_of, kind_text}
use Rattle.ordup_rows.specs.Rows.{Row}
use Rattle.ordup_rows.specs.Stages.{Stage, closed, head_of, reading, run, step, unread, with_row}
use Rattle.ordup_rows.specs.Telling.{BeginARecord, IsMissingRow, Tells}
use Rattle.ordup_rows.specs.Versions.{version_of}
use Rattle.ordup_rows.specs.declared.row_kind.RowKind.{RowKind}
use Rattle.ordup_rows.specs.declared.row_kind.RowKind.TheVariants as kind
use Rattle.ordup_rows.specs.declared.version.Version.{Version}
use Rattle.ordup_rows.proofs.Columns.{bound, four_columns, kept, kind_spelled, mapped, parts_3}
use Rattle.ordup_rows.proofs.PlainLemmas.{IsLine, all_lines}
use Rattle.ordup_rows.proofs.ReadingBack.{reading_is_complete, rows_tell_one_record}
use Rattle.ordup_rows.proofs.TextLemmas.{texts_have_one_list_of_rows}
use Rattle.ordup_check.specs.Reading.{begins_record}
use Rattle.ordup_check.specs.SeriesLaws.{TextsOfASeriesAreNotMalformed, TextsTellOneSeries}
use Rattle.ordup_check.specs.SeriesReading.{AreRowsOf, IsBadRowOfPart, TextBeginsSeries, TextTellsSeries}
use Rattle.ordup_check.proofs.LongRowLemmas.{short_begins}
use Rattle.ordup_check.proofs.SameRows.{first_of_all}
use Rattle.ordup_check.proofs.SeriesLemmas.{at-end, no_records}

-- ---- the first row of a record, and the others

kind_begins_none : (k : RowKind) → bytes_eq (kind_text k) (codes "ordup") ≡ false
kind_begins_none kind.Object = refl
kind_begins_none kind.Member = refl
kind_begins_none kind.Limit = refl
kind_begins_none kind.Change = refl
kind_begins_none kind.Report = refl
kind_begins_none kind.Round = refl
kind_begins_none kind.Window = refl

-- no row that is taken after the first begins a record
later_rows : (rows : List Row) (version : Version) (decided : ℕ) (r : RecordState) (stage : Stage)
    → run (reading version decided r) rows ≡ Some stage → list_any begins_record rows ≡ false
later_rows [] version decided r stage ran = refl
later_rows (row ∷ rows) version decided r stage ran =
    let (mid, stepped, rest) = bound (λ next. run next rows) (step (reading version decided r) row) stage ran in
    let (c, columns, on) = bound _ (columns_of row) mid stepped in
    let (k, read, taken) = bound _ (kind_of c.kind) mid on in
    let (q, is, same) = mapped (λ (q : RecordState). reading version decided q) (with_row version decided r k c) mid taken in
    let other : begins_record row ≡ false =
    ap begins_record (four_columns row c columns) ∙ (ap (λ l. bytes_eq l (codes "ordup")) (kind_spelled c.kind k read) ∙ kind_begins_none k) in
    rw other (later_rows rows version decided q stage (subst (λ s. run s rows ≡ Some stage) (sym same) rest))

-- rows of which the first begins a record, and no other
abbrev AreOfOne : List Row → Type 0
AreOfOne rows = (first : Row) × (later : List Row) × (rows ≡ first ∷ later) × (begins_record first ≡ true) × (list_any begins_record later ≡ false)

taken_rows : (rows : List Row) (stage : Stage) (r : RecordState) → run unread rows ≡ Some stage → closed stage ≡ Some r → AreOfOne rows
taken_rows [] unread r ran end = absurd cc
taken_rows [] (reading version decided q) r ran end = absurd cc
taken_rows (row ∷ rows) stage r ran end =
    let (mid, stepped, rest) = bound (λ next. run next rows) (step unread row) stage ran in
    let (c, columns, head) = bound head_of (columns_of row) mid stepped in
    let (version, named, on) = bound _ (version_of c.first) mid head in
    let (decided, read, last) = bound _ (natural_of c.third) mid on in
    let (tests, same) = kept _ _ mid last in
    let (kind, name, few) = parts_3 tests in (
      row,
      rows,
      refl,
      ap begins_record (four_columns row c columns) ∙ kind,
      later_rows rows version decided _ stage (subst (λ s. run s rows ≡ Some stage) (sym same) rest),
    )

record_rows : (rows : List Row) (r : RecordState) → Tells rows r → AreOfOne rows
record_rows rows r tells =
    let (stage, ran, end) = bound closed (run unread rows) r (reading_is_complete rows r tells) in
    taken_rows rows stage r ran end

-- ---- where records begin

-- there are none, or the first of them begins a record
abbrev Starts : List Row → Type 0
Starts [] = Unit {0}
Starts (row ∷ rows) = begins_record row ≡ true

rows_start : (rows : List Row) (records : List RecordState) → AreRowsOf rows records → Starts rows
rows_start rows [] none = subst Starts (sym none) tt
rows_start rows (r ∷ records) (part, rest, is, tells, others) =
    let (first, later, e, begins, none) = record_rows part r tells in
    subst Starts (sym (is ∙ ap (λ l. l ++ rest) e)) begins

starts_on : (before part : List Row) → Starts before → Starts part → Starts (before ++ part)
starts_on [] part first next = next
starts_on (row ∷ before) part first next = first

starts_part : (part more : List Row) → begins_record (slice_index_or part 0 []) ≡ true → Starts (part ++ more)
starts_part [] more begins = absurd (false≢true begins)
starts_part (row ∷ part) more begins = begins

-- rows of which none begins a record end where one does
same_later : (a b x y : List Row) → list_any begins_record a ≡ false → list_any begins_record b ≡ false → Starts x → Starts y
    → a ++ x ≡ b ++ y → (a ≡ b) × (x ≡ y)
same_later [] [] x y lone none starts begins is = (refl, is)
same_later [] (row ∷ b) x y lone none starts begins is =
    absurd (false≢true (sym (or_parts (begins_record row) (list_any begins_record b) none).0 ∙ subst Starts is starts))
same_later (row ∷ a) [] x y lone none starts begins is =
    absurd (false≢true (sym (or_parts (begins_record row) (list_any begins_record a) lone).0 ∙ subst Starts (sym is) begins))
same_later (row ∷ a) (other ∷ b) x y lone none starts begins is =
    let first : row ≡ other = cc in
    let rest : a ++ x ≡ b ++ y = cc in
    let (same, on) = same_later a b x y (or_parts (begins_record row) (list_any begins_record a) lone).1
    (or_parts (begins_record other) (list_any begins_record b) none).1 starts begins rest in
    (rw (first, same) refl, on)

-- of two lists of rows that begin with those of a record it is the same record
same_part : (a b : List Row) (q r : RecordState) (x y : List Row) → Tells a q → Tells b r → Starts x → Starts y → a ++ x ≡ b ++ y
    → (a ≡ b) × (x ≡ y)
same_part a b q r x y tells told starts begins is =
    let (first, later, e, one, lone) = record_rows a q tells in
    let (other, rest, f, two, none) = record_rows b r told in
    let both : first ∷ (later ++ x) ≡ other ∷ (rest ++ y) = sym (ap (λ l. l ++ x) e) ∙ (is ∙ ap (λ l. l ++ y) f) in
    let head : first ≡ other = cc in
    let tail : later ++ x ≡ rest ++ y = cc in
    let (same, on) = same_later later rest x y lone none starts begins tail in
    (e ∙ (rw (head, same) refl ∙ sym f), on)

-- records whose rows are the first of others' are the first of these, where a record begins behind them
first_records : (done : List RecordState) (before part all : List Row) (records : List RecordState) → AreRowsOf before done
    → AreRowsOf all records → all ≡ before ++ part → (done ≢ [] → Starts part)
    → (rest : List RecordState) × (records ≡ done ++ rest) × AreRowsOf part rest
first_records [] before part all records none are is starts =
    (records, refl, subst (λ l. AreRowsOf l records) (is ∙ ap (λ l. l ++ part) none) are)
first_records (q ∷ done) before part all [] (a, b, e, tells, others) none is starts =
    let (first, later, f, begins, lone) = record_rows a q tells in
    let some : [] ≡ first ∷ ((later ++ b) ++ part) = sym none ∙ (is ∙ (ap (λ l. l ++ part) e ∙ ap (λ l. (l ++ b) ++ part) f)) in
    absurd cc
first_records (q ∷ done) before part all (r ∷ records) (a, b, e, tells, others) (s, t, f, told, more) is starts =
    let begun : Starts part = starts (λ none. absurd cc) in
    let both : a ++ (b ++ part) ≡ s ++ t = sym (append_assoc a b part) ∙ (sym (is ∙ ap (λ l. l ++ part) e) ∙ f) in
    let (same, on) = same_part a s q r (b ++ part) t tells told (starts_on b part (rows_start b done others) begun) (rows_start t records more) both in
    let (rest, after, are) = first_records done b part t records others more (sym on) (λ some. begun) in
    let one : q ≡ r = rows_tell_one_record a q r tells (subst (λ l. Tells l r) (sym same) told) in
    (rest, ap (λ z. z ∷ records) (sym one) ∙ ap (λ l. q ∷ l) after, are)

-- ---- no next record is malformed

no_second : (rows : List Row) (row : Row) (more : List Row) → begins_record row ≡ true → list_any begins_record (rows ++ row ∷ more) ≡ false → ⊥
no_second rows row more begins none =
    let after = or_parts (list_any begins_record rows) (list_any begins_record (row ∷ more)) (sym (list_any-append begins_record rows (row ∷ more)) ∙ none) in
    false≢true (sym (or_parts (begins_record row) (list_any begins_record more) after.1).0 ∙ begins)

-- rows of a record and one that begins another begin no record
one_alone : (rows : List Row) (r : RecordState) (row : Row) (more : List Row) → Tells rows r → begins_record row ≡ true
    → BeginARecord (rows ++ row ∷ more) → ⊥
one_alone rows r row more tells begins (q, rest, told) =
    let (first, later, e, one, lone) = record_rows rows r tells in
    let (other, others, f, two, none) = record_rows ((rows ++ row ∷ more) ++ rest) q told in
    let all : first ∷ (later ++ row ∷ (more ++ rest)) ≡ other ∷ others =
    sym (append_assoc (first ∷ later) (row ∷ more) rest) ∙ (ap (λ l. (l ++ row ∷ more) ++ rest) (sym e) ∙ f) in
    let same : later ++ row ∷ (more ++ rest) ≡ others = cc in
    no_second later row (more ++ rest) begins (subst (λ l. list_any begins_record l ≡ false) (sym same) none)

-- of two lists that begin alike one ends within the other
abbrev Ends : List Row → List Row → List Row → List Row → Type 0
Ends part more rows rest =
    ((a : List Row) × (rows ≡ part ++ a)) ⊎ ((row : Row) × (a : List Row) × (part ≡ rows ++ row ∷ a) × (rest ≡ row ∷ (a ++ more)))

ends : (part more rows rest : List Row) → part ++ more ≡ rows ++ rest → Ends part more rows rest
ends [] more rows rest is = inl (rows, refl)
ends (row ∷ part) more [] rest is = inr (row, part, refl, sym is)
ends (row ∷ part) more (first ∷ rows) rest is =
    let same : row ≡ first = cc in
    let on : part ++ more ≡ rows ++ rest = cc in
    elim (ends part more rows rest on) [
      | inl (a, e) ↦ inl (a, rw (same, e) refl)
      | inr (next, a, e, f) ↦ inr (next, a, rw (same, e) refl, f)
    ]

front_begins : (n : ℕ) (rows a whole : List Row) (r : RecordState) → whole ≡ rows ++ a → Tells whole r → BeginARecord (take n rows)
front_begins n rows a whole r is tells = (
  r,
  drop n rows ++ a,
  subst (λ l. Tells l r) (is ∙ (ap (λ l. l ++ a) (sym (take-append-drop n rows)) ∙ append_assoc (take n rows) (drop n rows) a)) tells,
)

-- behind the rows of a record comes the first of the next one
module _ (rows : List Row) (r : RecordState) (row : Row) (a : List Row) (tells : Tells rows r) (begins : begins_record row ≡ true) where
  no_bad_row : (n : ℕ) → IsBadRowOfPart (rows ++ row ∷ a) n → ⊥
  no_bad_row n bad =
      let (some, within, before, worse) = bad.bad in
      elim (cases_lt (length rows) n) [
        | inr early ↦ worse (subst BeginARecord (sym (take-append-le n rows (row ∷ a) early)) (front_begins n rows [] rows r (sym (append-nil rows)) tells))
        | inl after ↦ elim (cases_lt (length rows + 1) n) [
          | inl far ↦ (let count : n - 1 ≡ length rows + suc (n - 2 - length rows) = omega (arith, far) in
              one_alone rows r row (take (n - 2 - length rows) a) tells begins
              (subst BeginARecord (ap (λ k. take k (rows ++ row ∷ a)) count ∙ take-append-add rows (row ∷ a) (suc (n - 2 - length rows))) before))
          | inr near ↦ (let count : n - 1 ≡ length rows = omega (arith, after, near) in
              bad.alone (ap (λ k. begins_record (slice_index_or (rows ++ row ∷ a) k [])) count ∙ (ap begins_record (at-end rows row a) ∙ begins)) r
              (subst (λ l. Tells l r) (sym (ap (λ k. take k (rows ++ row ∷ a)) count ∙ take-append_seam rows (row ∷ a))) tells))
        ]
      ]

not_bad : (part more : List Row) (rest : List RecordState) (n : ℕ) → AreRowsOf (part ++ more) rest → IsBadRowOfPart part n → ⊥
not_bad part more [] n none bad =
    let (some, within, before, worse) = bad.bad in
    omega (arith, some, within, ap length none, length-append part more)
not_bad part more (r ∷ rest) n (rows, tail, is, tells, others) bad = elim (ends part more rows tail is) [
  | inl (a, e) ↦ bad.bad.3 (front_begins n part a rows r e tells)
  | inr (row, a, e, f) ↦ no_bad_row rows r row a tells (subst Starts f (rows_start tail rest others)) n (subst (λ l. IsBadRowOfPart l n) e bad)
]

not_missing : (part : List Row) (r : RecordState) (rest : List RecordState) (n : ℕ) → AreRowsOf part (r ∷ rest) → IsMissingRow part n → ⊥
not_missing part r rest n (rows, [], is, tells, others) (count, begins, none) =
    none r (subst (λ l. Tells l r) (sym (is ∙ append-nil rows)) tells)
not_missing part r rest n (rows, row ∷ tail, is, tells, others) (count, begins, none) =
    one_alone rows r row tail tells (rows_start (row ∷ tail) rest others) (subst BeginARecord is begins)

-- ---- texts

pub lines_of_all : (rows : List Row) (records : List RecordState) → AreRowsOf rows records → All IsLine rows
lines_of_all rows [] none = subst (All IsLine) (sym none) (All-nil IsLine)
lines_of_all rows (r ∷ records) (part, rest, is, tells, others) =
    subst (All IsLine) (sym is)
    (All-append IsLine part rest (subst (All IsLine) (sym tells.same) (all_lines r tells.valid tells.version)) (lines_of_all rest records others))

-- there is a next record, or there was none
next_missing : (part : List Row) (records done rest : List RecordState) (n : ℕ) → records ≢ [] → records ≡ done ++ rest → AreRowsOf part rest
    → (done ≢ [] → begins_record (slice_index_or part 0 []) ≡ true) → IsMissingRow part n → ⊥
next_missing part records [] [] n some is none begins missing = some is
next_missing part records (q ∷ done) [] n some is none begins missing =
    false≢true (subst (λ l. begins_record (slice_index_or l 0 []) ≡ true) none (begins (λ same. absurd cc)))
next_missing part records done (r ∷ rest) n some is are begins missing = not_missing part r rest n are missing

pub texts_tell_one_series : TextsTellOneSeries
texts_tell_one_series text records others (rows, has, are) (all, also, all_are) =
    let same : rows ≡ all ++ [] = texts_have_one_list_of_rows text rows all has also ∙ sym (append-nil all) in
    let (rest, is, none) = first_records others all [] rows records all_are are same (λ some. tt) in
    is ∙ (ap (λ l. others ++ l) (no_records rest none) ∙ append-nil others)

-- a text begins with the first of the records that it tells
pub begins_with_first : (text : List ℕ) (records first : List RecordState) → TextTellsSeries text records → TextBeginsSeries text first
    → (rest : List RecordState) × (records ≡ first ++ rest)
begins_with_first text records first told (inl also) = ([], texts_tell_one_series text records first told also ∙ sym (append-nil first))
begins_with_first text records first (all, has, are) (inr (rows, row, begins, is_first, are_first)) =
    let (t, x, front) = short_begins text (rows ++ row ∷ []) all begins has (lines_of_all all records are) in
    let (u, y, whole, none) = has in
    let (more, is) = first_of_all (rows ++ row ∷ []) all st.StartRecord t u text x y front whole none in
    let (rest, after, rest_are) = first_records first rows (row ∷ more) all records are_first are (is ∙ append_assoc rows (row ∷ []) more)
    (λ some. is_first) in
    (rest, after)

pub texts_of_a_series_are_not_malformed : TextsOfASeriesAreNotMalformed
texts_of_a_series_are_not_malformed text records done n some (all, has, are) (before, part, are_before, begins, inl (first, bad)) =
    let (t, x, front) = short_begins text (before ++ part) all first has (lines_of_all all records are) in
    let (u, y, whole, none) = has in
    let (more, is) = first_of_all (before ++ part) all st.StartRecord t u text x y front whole none in
    let (rest, after, rest_are) = first_records done before (part ++ more) all records are_before are (is ∙ append_assoc before part more)
    (λ some. starts_part part more (begins some)) in
    not_bad part more rest n rest_are bad
texts_of_a_series_are_not_malformed text records done n some (all, has, are) (before, part, are_before, begins, inr (also, missing)) =
    let is : all ≡ before ++ part = texts_have_one_list_of_rows text all (before ++ part) has also in
    let (rest, after, rest_are) = first_records done before part all records are_before are is
    (λ some. subst Starts (append-nil part) (starts_part part [] (begins some))) in
    next_missing part records done rest n some after rest_are begins missing
