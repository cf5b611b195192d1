-- Rows tell one record, or have one first bad row.
use Rattle.ordup_audit.proofs.Common.{◌++◌, ◌+◌, ◌-◌, ◌<◌, ◌∙◌, ◌∷◌, ◌≡◌, ◌≤◌, ◌⊎◌, [], ap, append-nil, append_assoc, arith, cases_lt}
use Rattle.ordup_audit.proofs.Common.{drop, inl, inr, length, List, None, Option, option_and_then, RecordState, refl, Some, subst, sym}
use Rattle.ordup_audit.proofs.Common.{take, take-append-drop, ℕ}
use Rattle.std.proofs.lemmas.List.{take-take}
use Rattle.ordup_rows.specs.Laws.{RowsHaveOneFirstBadRow, RowsTellARecordOrHaveABadRow, RowsOfARecordHaveNoBadRow}
use Rattle.ordup_rows.specs.Rows.{Row}
use Rattle.ordup_rows.specs.Stages.{Stage, closed, run, step, unread}
use Rattle.ordup_rows.specs.Telling.{BeginARecord, IsBadRow, IsFirstBadRow, Tells}
use Rattle.ordup_rows.proofs.Beginnings.{incomplete_records_miss_a_row, first_row_not_taken_is_bad}
use Rattle.ordup_rows.proofs.Running.{reading_is_sound}

-- ---- a row is not taken, or all are

-- rows up to one that is not taken
abbrev Stops : Stage → List Row → Type 0
Stops s rows = (front : List Row) × (row : Row) × (more : List Row) × (stage : Stage) × (rows ≡ front ++ row ∷ more)
    × (run s front ≡ Some stage) × (step stage row ≡ None)

after_step : (s : Stage) (row : Row) (rows : List Row) (o : Option Stage) → step s row ≡ o
    → ((next : Stage) → (Stops next rows) ⊎ ((stage : Stage) × (run next rows ≡ Some stage)))
    → (Stops s (row ∷ rows)) ⊎ ((stage : Stage) × (run s (row ∷ rows) ≡ Some stage))
after_step s row rows None is rest = inl ([], row, rows, s, refl, refl, is)
after_step s row rows (Some next) is rest = elim (rest next) [
  | inl stops ↦ (let (front, bad, more, stage, e, ran, none) = stops in
      inl (row ∷ front, bad, more, stage, ap (λ l. row ∷ l) e, rw is ran, none))
  | inr whole ↦ (let (stage, ran) = whole in inr (stage, rw is ran))
]

stops_or_ends : (rows : List Row) (s : Stage) → (Stops s rows) ⊎ ((stage : Stage) × (run s rows ≡ Some stage))
stops_or_ends [] s = inr (s, refl)
stops_or_ends (row ∷ rows) s = after_step s row rows (step s row) refl (stops_or_ends rows)

at_end : (rows : List Row) (stage : Stage) (o : Option RecordState) → run unread rows ≡ Some stage → closed stage ≡ o
    → ((r : RecordState) × Tells rows r) ⊎ ((n : ℕ) × IsFirstBadRow rows n)
at_end rows stage None ran end = inr (length rows + 1, incomplete_records_miss_a_row rows stage ran end)
at_end rows stage (Some r) ran end = inl (r, reading_is_sound rows r (ap (option_and_then closed) ran ∙ end))

pub rows_tell_a_record_or_have_a_bad_row : RowsTellARecordOrHaveABadRow
rows_tell_a_record_or_have_a_bad_row rows = elim (stops_or_ends rows unread) [
  | inl stops ↦ (let (front, row, more, stage, e, ran, none) = stops in
      inr (
        length front + 1,
        subst (λ l. IsFirstBadRow l (length front + 1)) (sym e) (first_row_not_taken_is_bad front row more stage ran none),
      ))
  | inr whole ↦ (let (stage, ran) = whole in at_end rows stage (closed stage) ran refl)
]

-- ---- rows begin a record where they do with more rows

front_begins : (front rest : List Row) → BeginARecord (front ++ rest) → BeginARecord front
front_begins front rest (r, more, tells) = (r, rest ++ more, subst (λ l. Tells l r) (append_assoc front rest more) tells)

begins_before : (rows : List Row) (n : ℕ) → BeginARecord rows → BeginARecord (take n rows)
begins_before rows n on = front_begins (take n rows) (drop n rows) (subst BeginARecord (sym (take-append-drop n rows)) on)

begins_earlier : (rows : List Row) (m n : ℕ) → m ≤ n → BeginARecord (take n rows) → BeginARecord (take m rows)
begins_earlier rows m n le on = subst BeginARecord (take-take m n rows le) (begins_before (take n rows) m on)

pub rows_of_a_record_have_no_bad_row : RowsOfARecordHaveNoBadRow
rows_of_a_record_have_no_bad_row rows r n tells (inl (some, within, before, bad)) =
    bad (begins_before rows n (r, [], subst (λ l. Tells l r) (sym (append-nil rows)) tells))
rows_of_a_record_have_no_bad_row rows r n tells (inr (is, on, none)) = none r tells

-- a first bad row is not before another
not_before : (rows : List Row) (m n : ℕ) → IsBadRow rows m → IsFirstBadRow rows n → m < n → ⊥
not_before rows m n (some, within, before, bad) (inl (some2, within2, before2, bad2)) lt =
    bad (begins_earlier rows m (n - 1) (omega arith) before2)
not_before rows m n (some, within, before, bad) (inr (is, on, none)) lt = bad (begins_before rows m on)

pub rows_have_one_first_bad_row : RowsHaveOneFirstBadRow
rows_have_one_first_bad_row rows m n (inl first) (inl second) = elim (cases_lt m n) [
  | inl lt ↦ absurd (not_before rows m n first (inl second) lt)
  | inr ge ↦ elim (cases_lt n m) [
    | inl lt ↦ absurd (not_before rows n m second (inl first) lt)
    | inr le ↦ omega arith
  ]
]
rows_have_one_first_bad_row rows m n (inl first) (inr second) = absurd (not_before rows m n first (inr second) (omega (arith, first.1, second.0)))
rows_have_one_first_bad_row rows m n (inr first) (inl second) = absurd (not_before rows n m second (inr first) (omega (arith, first.0, second.1)))
rows_have_one_first_bad_row rows m n (inr first) (inr second) = omega (arith, first.0, second.0)
