-- How a reading of rows goes on.
use Rattle.ordup_audit.proofs.Common.{◌++◌, ◌||◌, list_any, list_any-append, or_from, ◌+◌, ◌∙◌, ◌∷◌, ◌≡◌, [], ap, append_assoc, arith, false, IfSome, inl, inr, length, length_push, List, None}
use Rattle.ordup_audit.proofs.Common.{IsRecord, Option, option_and_then, option_map, RecordState, refl, Some, subst, sym, true, ℕ}
use Rattle.csv.specs.Reading.{Reached, ReadRecord, default_config, reader_config, reader_state, source_of, strip_bom}
use Rattle.csv.specs.declared.parser.State.TheVariants as st
use Rattle.csv.specs.declared.reader.Reader.{Reader}
use Rattle.csv.proofs.ReadFacts.{rows-end, rows-more}
use Rattle.ordup_check.specs.Reading.{AllCame, EndsAt, HasBadRow, HasRead, IsFresh, IsReached, IsTaken, begins_record, has_never}
use Rattle.ordup_check.specs.declared.reading.RowsEnd.TheVariants as end
use Rattle.ordup_rows.specs.Telling.{IsBadRow}
use Rattle.ordup_rows.specs.Texts.{HasRows, IsMalformedAt, TextTells}
use Rattle.ordup_rows.specs.Rows.{Row}
use Rattle.ordup_rows.specs.Stages.{Stage, closed, run, step, unread}
use Rattle.ordup_check.specs.declared.reading.RecordReadFault.TheVariants as fault
use Rattle.ordup_rows.proofs.Columns.{bound}
use Rattle.ordup_rows.proofs.Beginnings.{incomplete_records_miss_a_row, first_row_not_taken_is_bad}
use Rattle.ordup_rows.proofs.Running.{reading_is_sound}

-- ---- row after row

run-last : (s : Stage) (rows : List Row) (row : Row) (stage : Stage) → run s rows ≡ Some stage
    → run s (rows ++ row ∷ []) ≡ run stage (row ∷ [])
run-last s [] row stage ran = let same : s ≡ stage = cc in ap (λ t. run t (row ∷ [])) same
run-last s (first ∷ rows) row stage ran =
    let (mid, stepped, rest) = bound (λ next. run next rows) (step s first) stage ran in
    rw stepped (run-last mid rows row stage rest)

-- a row more that came
came_more : (rows : List Row) (row : Row) → AllCame rows → has_never row ≡ false → AllCame (rows ++ row ∷ [])
came_more rows row came last =
    list_any-append has_never rows (row ∷ []) ∙ or_from (list_any has_never rows) (has_never row || false) came
    (or_from (has_never row) false last refl)

-- a stage that rows lead to, and one row more
pub reached-push : (stage next : Stage) (row : Row) → IsReached stage → step stage row ≡ Some next → IsReached next
reached-push stage next row (rows, ran) e =
    (rows ++ row ∷ [], run-last unread rows row stage ran ∙ ap (option_and_then (λ t. run t [])) e)

pub begins : {R : Type 0} (rem : R → Option (List ℕ)) (rdr : Reader R) (text : List ℕ) → source_of rem rdr ≡ Some text → IsFresh rdr
    → HasRead rem rdr [] unread 0 text
unfolding Reached
begins rem rdr text e fresh = ([], text, e, (sym fresh.state, refl), refl, refl, refl)

-- the rows before and one more
rows-push : (before rows : List Row) (row : Row) → (before ++ rows) ++ row ∷ [] ≡ before ++ (rows ++ row ∷ [])
rows-push before rows row = append_assoc before rows (row ∷ [])

pub onward : {R : Type 0} (rem : R → Option (List ℕ)) (old new : Reader R) (before : List Row) (stage next : Stage) (count : ℕ)
    (text : List ℕ) (row : Row) → reader_config old ≡ default_config → HasRead rem old before stage count text
    → ReadRecord rem old new true row → has_never row ≡ false → step stage row ≡ Some next
    → HasRead rem new before next (count + 1) text
onward rem old new before stage next count text row config (rows, rest, source, reached, came, ran, counted) r last e =
    let (z, at_z, more) = rows-more rem old new row default_config st.StartRecord text rest (before ++ rows) config source reached r in
    let push = rows-push before rows row in (
      rows ++ row ∷ [],
      z,
      at_z,
      subst (λ l. Reached default_config st.StartRecord text l (reader_state new) z) push more,
      subst AllCame push (came_more (before ++ rows) row came last),
      run-last unread rows row stage ran ∙ ap (option_and_then (λ t. run t [])) e,
      length_push rows row ∙ ap (λ n. n + 1) counted,
    )

-- the reading ends at a row that is not taken
pub stops : {R : Type 0} (rem : R → Option (List ℕ)) (old new : Reader R) (before : List Row) (at stage : Stage) (count : ℕ)
    (text : List ℕ) (row : Row) → reader_config old ≡ default_config → HasRead rem old before at count text
    → ReadRecord rem old new true row → has_never row ≡ false → step at row ≡ None → (begins_record row ≡ true → stage ≡ at)
    → EndsAt rem new before stage row text (end.Row (count + 1))
stops rem old new before at stage count text row config (rows, rest, source, reached, came, ran, counted) r last none kept =
    let (z, at_z, more) = rows-more rem old new row default_config st.StartRecord text rest (before ++ rows) config source reached r in (
      rows,
      z,
      at,
      at_z,
      more,
      came_more (before ++ rows) row came last,
      ran,
      none,
      kept,
      ap (λ n. n + 1) counted,
    )

-- or at the end of the text
pub ends : {R : Type 0} (rem : R → Option (List ℕ)) (old new : Reader R) (before : List Row) (stage : Stage) (count : ℕ) (text : List ℕ)
    (row other : Row) → reader_config old ≡ default_config → HasRead rem old before stage count text → ReadRecord rem old new false row
    → EndsAt rem new before stage other text (end.Text (count + 1))
ends rem old new before stage count text row other config (rows, rest, source, reached, came, ran, counted) r = (
  rows,
  (reader_state old, rest, reached, rows-end rem old new row default_config rest config source r),
  came,
  ran,
  ap (λ n. n + 1) counted,
)

-- a row that is not taken is bad
pub not-taken : (rows : List Row) (row : Row) (stage : Stage) → run unread rows ≡ Some stage → step stage row ≡ None
    → IsBadRow (rows ++ row ∷ []) (length rows + 1)
not-taken rows row stage ran none =
    elim (first_row_not_taken_is_bad rows row [] stage ran none) as (λ x. IsBadRow (rows ++ row ∷ []) (length rows + 1)) [
      | inl first ↦ first
      | inr missing ↦ absurd (omega (arith, missing.0, length_push rows row))
    ]

-- what rows lead to is a record, where it can be closed
closed-is : (stage : Stage) (o : Option RecordState) → IsReached stage → closed stage ≡ o → IfSome o IsRecord
closed-is stage None reached is = tt
closed-is stage (Some r) (rows, ran) is = (reading_is_sound rows r (ap (option_and_then closed) ran ∙ is)).valid

pub closed-sound : (stage : Stage) → IsReached stage → IfSome (closed stage) IsRecord
closed-sound stage reached = closed-is stage (closed stage) reached refl

-- ---- the rows of a text from its start

pub whole : {R : Type 0} (rem : R → Option (List ℕ)) (old new : Reader R) (o : Option (List ℕ)) (stage : Stage) (n : ℕ) (row : Row)
    → source_of rem old ≡ o → IsFresh old
    → ((text : List ℕ) (before : List Row) → HasRead rem old before unread 0 text → EndsAt rem new before stage row text (end.Text n))
    → IfSome o (λ text. IsTaken text stage n)
whole rem old new None stage n row e fresh h = tt
whole rem old new (Some text) stage n row e fresh h = h text [] (begins rem old text e fresh)

pub bad : {R : Type 0} (rem : R → Option (List ℕ)) (old new : Reader R) (o : Option (List ℕ)) (stage : Stage) (n : ℕ) (row : Row)
    → source_of rem old ≡ o → IsFresh old
    → ((text : List ℕ) (before : List Row) → HasRead rem old before unread 0 text → EndsAt rem new before stage row text (end.Row n))
    → IfSome o (λ text. HasBadRow text n)
bad rem old new None stage n row e fresh h = tt
bad rem old new (Some text) stage n row e fresh h =
    let (rows, rest, at, source, reached, came, ran, none, kept, counted) = h text [] (begins rem old text e fresh) in
    let there : HasBadRow text (length rows + 1) =
    (rows ++ row ∷ [], (reader_state new, rest, reached), came, not-taken rows row at ran none) in
    rw counted at there

-- ---- the end

pub malformed-number : (m n : ℕ) → fault.Malformed m ≡ fault.Malformed n → m ≡ n
malformed-number m n e = cc

-- what was taken and closed is what the text tells
pub closed-tells : (text : List ℕ) (stage : Stage) (n : ℕ) (r : RecordState) → IsTaken text stage n → closed stage ≡ Some r
    → TextTells text r
closed-tells text stage n r (rows, are, came, ran, counted) end =
    (rows, are, reading_is_sound rows r (ap (option_and_then closed) ran ∙ end))

-- what was taken and cannot be closed misses a row
not-closed : (text : List ℕ) (rows : List Row) (stage : Stage) → HasRows text rows → run unread rows ≡ Some stage → closed stage ≡ None
    → IsMalformedAt text (length rows + 1)
not-closed text rows stage are ran none =
    elim (incomplete_records_miss_a_row rows stage ran none) as (λ x. IsMalformedAt text (length rows + 1)) [
      | inl first ↦ absurd (omega (arith, first.1))
      | inr missing ↦ inr (rows, are, missing)
    ]

pub open-malformed : (text : List ℕ) (stage : Stage) (n : ℕ) → IsTaken text stage n → closed stage ≡ None → IsMalformedAt text n
open-malformed text stage n (rows, are, came, ran, counted) none = rw counted at (not-closed text rows stage are ran none)

-- ---- the text that a reader was made over: a byte order mark at its start is passed over

pub text-taken : (o source : Option (List ℕ)) (stage : Stage) (n : ℕ) → source ≡ option_map strip_bom o
    → IfSome source (λ text. IsTaken text stage n) → IfSome o (λ text. IsTaken (strip_bom text) stage n)
text-taken None source stage n is taken = tt
text-taken (Some text) source stage n is taken = rw is at taken

pub text-bad : (o source : Option (List ℕ)) (n : ℕ) → source ≡ option_map strip_bom o → IfSome source (λ text. HasBadRow text n)
    → IfSome o (λ text. HasBadRow (strip_bom text) n)
text-bad None source n is bad = tt
text-bad (Some text) source n is bad = rw is at bad
