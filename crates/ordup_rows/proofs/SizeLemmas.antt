-- How long the text of a record can be.
use Rattle.ordup_audit.proofs.Common.{◌*◌, ◌+◌, ◌∷◌, ◌≡◌, ◌≤◌, [], All, All-tail, ap, arith, Change, GroupList, IsRecord, IsSet}
use Rattle.ordup_audit.proofs.Common.{length, length-append, length-map, List, most_changes, Objects, RecordState, refl, suc, ℕ}
use Rattle.ordup_rows.specs.Rows.{Row, change_row, change_rows, counted, member_row, member_rows}
use Rattle.ordup_rows.specs.Rows.{row_line, rows_in, rows_of, rows_text}
use Rattle.ordup_audit.specs.Rows.{member_count}
use Rattle.ordup_audit.specs.Sizes.{most_rows_before_windows, most_windows}
use Rattle.ordup_rows.specs.TextLaws.{WrittenTextsAreWithinTheLimit}
use Rattle.ordup_rows.specs.Versions.{version_for}
use Rattle.ordup_rows.specs.declared.version.Version.{Version}
use Rattle.ordup_audit.proofs.AscendingLemmas.{reports-few, rounds-few}
use Rattle.ordup_rows.proofs.Growth.{member_count-more}
use Rattle.ordup_rows.proofs.PlainLemmas.{IsLine, all_lines}
use Rattle.ordup_rows.proofs.ReadingBack.{member_count-few}

text_short : (rows : List Row) → All IsLine rows → length (rows_text rows) ≤ 100 * length rows
text_short [] are = omega arith
text_short (row ∷ rows) are =
    let line = are 0 row (omega arith) in
    omega (
      arith,
      line.short,
      length-append (row_line row) (rows_text rows),
      text_short rows (All-tail IsLine row rows are),
    )

-- ---- how many rows there are

length-counted : {X : Type 0} (row : ℕ → X → Row) (i : ℕ) (xs : List X) → length (counted row i xs) ≡ length xs
length-counted row i [] = refl
length-counted row i (x ∷ xs) = ap suc (length-counted row (i + 1) xs)

length-member_rows : (objects : Objects) (i : ℕ) (groups : GroupList) → length (member_rows objects i groups) ≡ member_count groups
length-member_rows objects i [] = refl
length-member_rows objects i (g ∷ groups) =
    omega (
      arith,
      length-append (counted (member_row objects g.0) i g.1) (member_rows objects (i + length g.1) groups),
      length-counted (member_row objects g.0) i g.1,
      length-member_rows objects (i + length g.1) groups,
      member_count-more g groups,
    )

length-change_rows : (objects : Objects) (k : ℕ) (sets : List (List Change)) → All IsSet sets
    → length (change_rows objects k sets) ≤ most_changes * length sets
length-change_rows objects k [] are = omega arith
length-change_rows objects k (m ∷ sets) are =
    let set = are 0 m (omega arith) in
    omega (
      arith,
      set.few,
      length-append (counted (change_row objects k) 1 m) (change_rows objects (k + 1) sets),
      length-counted (change_row objects k) 1 m,
      length-change_rows objects (k + 1) sets (λ i d lt. are (suc i) d (omega arith)),
    )

rows_few : (version : Version) (r : RecordState) → IsRecord r → length (rows_in version r) ≤ most_rows_before_windows + most_windows
rows_few version r is =
    let members = member_count-few r.groups is.groups.each in
    let changes = length-change_rows r.objects 1 r.sets is.sets in
    let reports = reports-few (length r.sets) r.reports is.reports in
    let rounds = rounds-few (length r.sets) r.rounds is.rounds in
    simp (length-append, length-counted, length-member_rows, length-map)
    (omega (arith, members, changes, reports, rounds, is.objects.few, is.groups.few, is.limits.few, is.few, is.few_windows))

pub written_texts_are_within_the_limit : WrittenTextsAreWithinTheLimit
written_texts_are_within_the_limit r is =
    let version = version_for r.limits in
    omega (arith, text_short (rows_of r) (all_lines r is version), rows_few version r is)
