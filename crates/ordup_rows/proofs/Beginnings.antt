-- Rows that were taken begin a record; so the first row that is not taken is the first bad one.
use Rattle.ordup_audit.proofs.Common.{◌++◌, ◌+◌, ◌-◌, ◌<◌, ◌∙◌, ◌∷◌, ◌≡◌, [], Add, All-cons, All-nil, ap, append-nil, append_assoc}
use Rattle.ordup_audit.proofs.Common.{AreKnown, arith, cases_lt, Change, codes, decimal, inl, inr, IsKnown, IsSet, length}
use Rattle.ordup_audit.proofs.Common.{length-append, length_push, List, lt-ltb, nil_from_length, None, option_and_then, pos, RecordState}
use Rattle.ordup_audit.proofs.Common.{refl, same_Some, signed_decimal, Some, subst, suc, sym, take, zero, ℕ}
use Rattle.std.proofs.Math.Seq.{take-append_seam}
use Rattle.ordup_grammar.proofs.Decimals.{number_of-signed_decimal}
use Rattle.ordup_rows.specs.Columns.{Columns}
use Rattle.ordup_rows.specs.Laws.{IncompleteRecordsMissARow, FirstRowNotTakenIsBad, TakenRowsBeginARecord}
use Rattle.ordup_rows.specs.Rows.{Row, change_text, rows_so_far}
use Rattle.ordup_rows.specs.Stages.{Stage, closed, record_at, run, step, reading, unread, with_change_row, with_object}
use Rattle.ordup_rows.specs.Telling.{BeginARecord, Tells}
use Rattle.ordup_rows.specs.declared.row_kind.RowKind.TheVariants as kind
use Rattle.ordup_rows.specs.declared.version.Version.{Version}
use Rattle.ordup_rows.specs.declared.version.Version.TheVariants.{First}
use Rattle.ordup_rows.proofs.Columns.{bound, writes-decimal}
use Rattle.ordup_rows.proofs.Growth.{IsBeforeMembers, IsBeforeReports}
use Rattle.ordup_rows.proofs.ReadingBack.{HasNumber, reading_is_complete}
use Rattle.ordup_rows.proofs.Refusals.{set_allowed}
use Rattle.ordup_rows.proofs.Running.{IsStage, no_record, run_whole, stage_rows, whole_tells}
use Rattle.ordup_rows.proofs.Taking.{take_row}
use Rattle.ordup_rows.proofs.RecordsSoFar.{IsRecordSoFar}
use Rattle.ordup_rows.proofs.Words.{change_by-text}

one_before : (rows : List Row) (row : Row) (next : List Row) → next ≡ rows ++ row ∷ [] → BeginARecord next → BeginARecord rows
one_before rows row next e (r, more, tells) =
    (r, row ∷ more, subst (λ l. Tells l r) (ap (λ front. front ++ more) e ∙ append_assoc rows (row ∷ []) more) tells)

-- ---- updates that lack are filled by one that adds nothing to the first object

abbrev nothing : Change
nothing = record { object = 0; op = Add (pos 0) }

nothing_set : IsSet (nothing ∷ [])
nothing_set = record {
  some = omega arith;
  few = omega arith;
  numbers = All-cons HasNumber nothing [] (omega arith) (All-nil HasNumber);
  distinct = refl;
}

module _ (version : Version) (decided : ℕ) (q : RecordState) (is : IsRecordSoFar version decided q) (some : 0 < length q.objects) where
  abbrev fill_columns : Columns
  fill_columns = record {
    kind = codes "change";
    first = decimal (length q.sets + 1);
    second = decimal 1;
    third = change_text q.objects nothing;
  }

  abbrev filled : RecordState
  filled = record q { sets = q.sets ++ (nothing ∷ []) ∷ [] }

  filled_by : IsBeforeReports q → length q.sets < decided → with_change_row decided q fill_columns ≡ Some filled
  filled_by (e1, (e2, e3)) lt =
      let known : AreKnown (length q.objects) (nothing ∷ []) =
      All-cons (IsKnown (length q.objects)) nothing [] (some, tt) (All-nil (IsKnown (length q.objects))) in
      let updates = is.updates in
      rw (
        e1,
        e2,
        e3,
        change_by-text q.objects is.objects.distinct is.objects.names nothing (some, tt) (omega arith),
        writes-decimal 1 (omega arith),
        lt-ltb (length q.sets) decided lt,
        writes-decimal (length q.sets + 1) (omega arith),
        set_allowed (length q.objects) (nothing ∷ []) nothing_set known,
      ) refl

fill : (k : ℕ) (version : Version) (decided : ℕ) (q : RecordState) → IsRecordSoFar version decided q → 0 < length q.objects
    → length q.sets + k ≡ decided → BeginARecord (rows_so_far version decided q)
fill zero version decided q is some count =
    (q, [], subst (λ l. Tells l q) (sym (append-nil (rows_so_far version decided q))) (whole_tells version decided q is some (omega arith)))
fill (suc k) version decided q is some count = elim is.full [
  | inl all ↦ absurd (omega (arith, all))
  | inr before ↦ (let more = take_row version decided q is (fill_columns version decided q is some) kind.Change
      (filled version decided q is some) refl (filled_by version decided q is some before (omega arith)) in
      one_before (rows_so_far version decided q) _ _ more.rows
      (fill k version decided (filled version decided q is some) more.is some (omega (arith, length_push q.sets (nothing ∷ [])))))
]

-- ---- an object is added, where there is none

abbrev first_columns : Columns
first_columns = record { kind = codes "object"; first = decimal 1; second = codes "x"; third = signed_decimal (pos 0) }

abbrev with_x : RecordState → RecordState
with_x q = record q { objects = q.objects ++ (codes "x", pos 0) ∷ [] }

first_by : (q : RecordState) → q.objects ≡ [] → IsBeforeMembers q → with_object q first_columns ≡ Some (with_x q)
first_by q e0 (e1, (e2, (e3, (e4, (e5, e6))))) =
    rw (e0, e1, e2, e3, e4, e5, e6, number_of-signed_decimal (pos 0) (omega arith), writes-decimal 1 (omega arith)) refl

begin_reading : (version : Version) (decided : ℕ) (q : RecordState) → IsRecordSoFar version decided q → BeginARecord (rows_so_far version decided q)
begin_reading version decided q is = elim is.begun [
  | inl some ↦ (let count = is.sets.count in fill (decided - length q.sets) version decided q is some (omega arith))
  | inr before ↦ elim (cases_lt 0 (length q.objects)) [
    | inl some ↦ (let count = is.sets.count in fill (decided - length q.sets) version decided q is some (omega arith))
    | inr none ↦ (let e : q.objects ≡ [] = nil_from_length q.objects (omega arith) in
        let more = take_row version decided q is first_columns kind.Object (with_x q) refl (first_by q e before) in
        let count = is.sets.count in
        one_before (rows_so_far version decided q) _ _ more.rows
        (fill (decided - length q.sets) version decided (with_x q) more.is (omega (arith, length_push q.objects (codes "x", pos 0)))
        (omega arith)))
  ]
]

begin_stage : (stage : Stage) → IsStage stage → BeginARecord (stage_rows stage)
begin_stage unread is =
    let site = codes "x" in
    let (r, more, tells) = begin_reading First 0 (record_at site) (no_record First site 0 refl (omega arith)) in
    (r, rows_so_far First 0 (record_at site) ++ more, tells)
begin_stage (reading version decided q) is = begin_reading version decided q is

pub taken_rows_begin_a_record : TakenRowsBeginARecord
taken_rows_begin_a_record rows stage ran =
    let (is, same) = run_whole rows stage ran in
    subst BeginARecord same (begin_stage stage is)

-- ---- rows that are not taken

stuck : (rows : List Row) (row : Row) (more : List Row) (s t : Stage) → run s rows ≡ Some t → step t row ≡ None
    → run s (rows ++ row ∷ more) ≡ None
stuck [] row more s t ran none = ap (option_and_then (λ next. run next more)) (ap (λ stage. step stage row) (same_Some s t ran) ∙ none)
stuck (first ∷ rows) row more s t ran none =
    let (mid, stepped, rest) = bound (λ next. run next rows) (step s first) t ran in
    rw stepped (stuck rows row more mid t rest none)

tells_nothing : (rows : List Row) → run unread rows ≡ None → (r : RecordState) → Tells rows r → ⊥
tells_nothing rows none r tells =
    let (stage, ran, end) = bound closed (run unread rows) r (reading_is_complete rows r tells) in
    absurd (cc)

pub first_row_not_taken_is_bad : FirstRowNotTakenIsBad
first_row_not_taken_is_bad rows row more stage ran none =
    let before : length rows + 1 - 1 ≡ length rows = omega arith in
    let whole : rows ++ row ∷ more ≡ (rows ++ row ∷ []) ++ more = sym (append_assoc rows (row ∷ []) more) in
    let count : length rows + 1 ≡ length (rows ++ row ∷ []) = omega (arith, length_push rows row) in
    let front : take (length rows + 1 - 1) (rows ++ row ∷ more) ≡ rows = rw before (take-append_seam rows (row ∷ more)) in
    let upto : take (length rows + 1) (rows ++ row ∷ more) ≡ rows ++ row ∷ [] =
    rw (whole, count) (take-append_seam (rows ++ row ∷ []) more) in
    let bad : BeginARecord (rows ++ row ∷ []) → ⊥ = λ (r, rest, tells).
    tells_nothing ((rows ++ row ∷ []) ++ rest) (rw (append_assoc rows (row ∷ []) rest) (stuck rows row rest unread stage ran none)) r tells in
    inl (
      omega arith,
      omega (arith, length-append rows (row ∷ more)),
      subst BeginARecord (sym front) (taken_rows_begin_a_record rows stage ran),
      subst (λ l. BeginARecord l → ⊥) (sym upto) bad,
    )

pub incomplete_records_miss_a_row : IncompleteRecordsMissARow
incomplete_records_miss_a_row rows stage ran none =
    inr (
      refl,
      taken_rows_begin_a_record rows stage ran,
      λ r tells.
          let (other, ran2, end) = bound closed (run unread rows) r (reading_is_complete rows r tells) in
          absurd (cc),
    )
