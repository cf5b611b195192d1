-- Texts that are read as rows, one way alone; and the text of a record is read as its rows.
use Rattle.ordup_audit.proofs.Common.{◌++◌, ◌-◌, ◌∙◌, ◌∷◌, ◌≡◌, ◌⊎◌, [], All, ap, append-nil, arith, inl, inr, length, length-append, List}
use Rattle.ordup_audit.proofs.Common.{nil_from_length, None, RecordState, refl, same_Some, subst, suc, sym, take-append-le, ℕ}
use Rattle.csv.specs.Machine.{next_record}
use Rattle.csv.specs.Reading.{AreRecords, Reached, default_config, strip_bom}
use Rattle.csv.specs.Writing.{is_blank, read_back}
use Rattle.csv.specs.declared.parser.State.{State}
use Rattle.csv.specs.declared.parser.State.TheVariants as st
use Rattle.csv.proofs.RoundTrip.{read-write}
use Rattle.ordup_rows.specs.Forming.{csv_text}
use Rattle.ordup_rows.specs.Rows.{Row, rows_of, rows_text}
use Rattle.ordup_rows.specs.Telling.{BeginARecord, IsBadRow, IsFirstBadRow, Tells}
use Rattle.ordup_rows.specs.TextLaws.{TextsAreMalformedAtOneRow, TextsHaveOneListOfRows, TextsTellOneRecord, TextsOfARecordAreNotMalformed}
use Rattle.ordup_rows.specs.TextLaws.{WrittenTextsTellTheirRecord, WrittenTextsHaveTheirRows}
use Rattle.ordup_rows.specs.Texts.{HasRows}
use Rattle.ordup_rows.specs.Versions.{version_for}
use Rattle.ordup_rows.proofs.BadRows.{rows_have_one_first_bad_row, rows_of_a_record_have_no_bad_row}
use Rattle.ordup_rows.proofs.PlainLemmas.{IsLine, all_lines, lines_of}
use Rattle.ordup_rows.proofs.ReadingBack.{rows_tell_one_record}
use Rattle.ordup_rows.proofs.Versions.{can_tell-for}

-- ---- one way alone

-- rows at the front of others
abbrev IsFront : List Row → List Row → Type 0
IsFront front rows = (more : List Row) × (rows ≡ front ++ more)

front_more : (a b : Row) (front rows : List Row) → a ≡ b → IsFront front rows → IsFront (a ∷ front) (b ∷ rows)
front_more a b front rows e (more, is) = (more, rw (e, is) refl)

-- of two lists of first rows one is the front of the other
fronts : (s t u : State) (text x y : List ℕ) (a b : List Row) → Reached default_config s text a t x → Reached default_config s text b u y
    → (IsFront a b) ⊎ (IsFront b a)
unfolding Reached
fronts s t u text x y [] b h k = inl (b, refl)
fronts s t u text x y (row ∷ a) [] h k = inr (row ∷ a, refl)
fronts s t u text x y (row ∷ a) (first ∷ b) (p, e, is, h) (q, f, same, k) =
    let one : q ≡ p = same_Some q p (sym f ∙ e) in
    let rows : row ≡ first = is ∙ (ap (λ z. z.0) (sym one) ∙ sym same) in
    elim (fronts p.1 t u p.2 x y a b h (rw one at k)) [
      | inl before ↦ inl (front_more row first a b rows before)
      | inr after ↦ inr (front_more first row b a (sym rows) after)
    ]

-- the first rows of a text are the front of all of them
front_of_all : (s t : State) (text x : List ℕ) (a b : List Row) → Reached default_config s text a t x → AreRecords default_config s text b
    → IsFront a b
unfolding Reached
front_of_all s t text x [] b h are = (b, refl)
front_of_all s t text x (row ∷ a) [] (p, e, is, h) (u, y, (same, whole), none) = absurd (cc (rw (same, whole) at e))
front_of_all s t text x (row ∷ a) (first ∷ b) (p, e, is, h) (u, y, (q, f, same, k), none) =
    let one : q ≡ p = same_Some q p (sym f ∙ e) in
    front_more row first a b (is ∙ (ap (λ z. z.0) (sym one) ∙ sym same)) (front_of_all p.1 t p.2 x a b h (u, y, rw one at k, none))

both_fronts : (a b m n : List Row) → b ≡ a ++ m → a ≡ b ++ n → a ≡ b
both_fronts a b m n e f =
    let long = ap length e ∙ length-append a m in
    let short = ap length f ∙ length-append b n in
    let none : n ≡ [] = nil_from_length n (omega (arith, long, short)) in
    f ∙ (ap (λ l. b ++ l) none ∙ append-nil b)

pub texts_have_one_list_of_rows : TextsHaveOneListOfRows
texts_have_one_list_of_rows text rows more (s, x, h, end) (t, y, k, close) =
    let (m, e) = front_of_all st.StartRecord s text x rows more h (t, y, k, close) in
    let (n, f) = front_of_all st.StartRecord t text y more rows k (s, x, h, end) in
    both_fronts rows more m n e f

-- ---- what a text tells, and where it is malformed

-- a bad row is the first one, whatever comes after
bad_before : (rows more all : List Row) (n : ℕ) → all ≡ rows ++ more → IsBadRow rows n → IsFirstBadRow all n
bad_before rows more all n e (some, within, before, bad) =
    subst (λ l. IsFirstBadRow l n) (sym e) (inl (
      some,
      omega (arith, within, length-append rows more),
      subst BeginARecord (sym (take-append-le (n - 1) rows more (omega (arith, within)))) before,
      λ on. bad (subst BeginARecord (take-append-le n rows more within) on),
    ))

pub texts_tell_one_record : TextsTellOneRecord
texts_tell_one_record text r q (rows, are, tells) (more, all, also) =
    rows_tell_one_record rows r q tells (subst (λ l. Tells l q) (texts_have_one_list_of_rows text more rows all are) also)

pub texts_of_a_record_are_not_malformed : TextsOfARecordAreNotMalformed
texts_of_a_record_are_not_malformed text r n (rows, are, tells) (inl (front, (s, x, h), bad)) =
    let (more, e) = front_of_all st.StartRecord s text x front rows h are in
    rows_of_a_record_have_no_bad_row rows r n tells (bad_before front more rows n e bad)
texts_of_a_record_are_not_malformed text r n (rows, are, tells) (inr (more, all, missing)) =
    rows_of_a_record_have_no_bad_row more r n (subst (λ l. Tells l r) (texts_have_one_list_of_rows text rows more are all) tells) (inr missing)

pub texts_are_malformed_at_one_row : TextsAreMalformedAtOneRow
texts_are_malformed_at_one_row text m n (inl (a, (s, x, h), bad)) (inl (b, (t, y, k), worse)) =
    elim (fronts st.StartRecord s t text x y a b h k) [
      | inl before ↦ rows_have_one_first_bad_row b m n (bad_before a before.0 b m before.1 bad) (inl worse)
      | inr after ↦ rows_have_one_first_bad_row a m n (inl bad) (bad_before b after.0 a n after.1 worse)
    ]
texts_are_malformed_at_one_row text m n (inl (a, (s, x, h), bad)) (inr (rows, are, missing)) =
    let (more, e) = front_of_all st.StartRecord s text x a rows h are in
    rows_have_one_first_bad_row rows m n (bad_before a more rows m e bad) (inr missing)
texts_are_malformed_at_one_row text m n (inr (rows, are, missing)) (inl (a, (s, x, h), bad)) =
    let (more, e) = front_of_all st.StartRecord s text x a rows h are in
    rows_have_one_first_bad_row rows m n (inr missing) (bad_before a more rows n e bad)
texts_are_malformed_at_one_row text m n (inr (rows, are, missing)) (inr (more, all, lacking)) =
    rows_have_one_first_bad_row rows m n (inr missing)
    (subst (λ l. IsFirstBadRow l n) (texts_have_one_list_of_rows text more rows all are) (inr lacking))

-- ---- the text of a record

-- a row that is written as its line is read back as itself
read_as_line : (row : Row) → IsLine row → read_back row ≡ row
unfolding is_blank
read_as_line [] is = absurd (cc (is.text))
read_as_line (column ∷ columns) is = refl

reaches : (rows : List Row) → All IsLine rows → Reached default_config st.StartRecord (csv_text rows) rows st.StartRecord []
unfolding Reached
reaches [] are = (refl, refl)
reaches (row ∷ rows) are = (
  (read_back row, st.StartRecord, csv_text rows),
  read-write row (csv_text rows),
  sym (read_as_line row (are 0 row (omega arith))),
  reaches rows (λ k d lt. are (suc k) d (omega arith)),
)

no_more : next_record default_config st.StartRecord [] [] [] ≡ None
unfolding next_record
no_more = refl

-- the text of a record begins with no byte order mark
no_mark : (r : RecordState) → strip_bom (rows_text (rows_of r)) ≡ rows_text (rows_of r)
unfolding strip_bom
no_mark r = refl

pub written_texts_have_their_rows : WrittenTextsHaveTheirRows
written_texts_have_their_rows r is =
    rw (no_mark r) (subst (λ text. HasRows text (rows_of r)) (lines_of r is (version_for r.limits))
    (st.StartRecord, [], reaches (rows_of r) (all_lines r is (version_for r.limits)), no_more))

pub written_texts_tell_their_record : WrittenTextsTellTheirRecord
written_texts_tell_their_record r is = (
  rows_of r,
  written_texts_have_their_rows r is,
  record { valid = is; version = version_for r.limits; limits = can_tell-for r.limits; same = refl },
)
