-- Rows that are written one by one.
use Rattle.ordup_audit.proofs.Common.{◌++◌, ◌+◌, ◌<◌, ◌∙◌, ◌∷◌, ◌≡◌, [], ap, append-nil, append_assoc, Change, drop, get_or, get_or_from_slice_get}
use Rattle.ordup_audit.proofs.Common.{GroupList, length, List, map, names_of, None, Objects, Option, option_map, RecordState, refl}
use Rattle.ordup_audit.proofs.Common.{slice_get, Some, sym, ℕ}
use Rattle.std.proofs.Common.{add-one, drop-cons}
use Rattle.std.specs.Prelude.{Vec}
use Rattle.std.proofs.lemmas.Option.{slice_get-map, slice_get_within}
use Rattle.csv.specs.Writing.{default_writer, row_text}
use Rattle.csv.specs.declared.writer.Writer.{Writer}
use Rattle.ordup_rows.specs.Forming.{IsClean, csv_text, first_rows, last_rows, text_so_far}
use Rattle.ordup_rows.specs.Rows.{Row, change_row, change_rows, counted, member_row, member_rows, name_at, report_row}
use Rattle.ordup_rows.specs.Rows.{rows_in}
use Rattle.ordup_audit.specs.declared.report_change.ReportChange.{ReportChange}
use Rattle.ordup_rows.specs.declared.version.Version.{Version}

-- rows were written up to some rest of all of them
abbrev pub IsUpto : {A : Type 0} → Writer (Vec ℕ A) → Writer (Vec ℕ A) → List Row → List Row → Type 0
IsUpto old now rest all =
    IsClean now × (option_map (λ t. t ++ csv_text rest) (text_so_far now) ≡ option_map (λ t. t ++ csv_text all) (text_so_far old))

-- a text that is written before the rest
text_step : (mid new all : Option (List ℕ)) (now rest : List ℕ) → new ≡ option_map (λ t. t ++ now) mid
    → option_map (λ t. t ++ (now ++ rest)) mid ≡ all
    → option_map (λ t. t ++ rest) new ≡ all
text_step None new all now rest e h = ap (option_map (λ t. t ++ rest)) e ∙ h
text_step (Some t) new all now rest e h = ap (option_map (λ t. t ++ rest)) e ∙ ap (λ x. Some x) (append_assoc t now rest) ∙ h

-- the next of the rest was written
pub more_written : {A : Type 0} (mid new : Writer (Vec ℕ A)) (now rest next : List ℕ) (all : Option (List ℕ))
    → IsClean mid × (option_map (λ t. t ++ rest) (text_so_far mid) ≡ all) → IsClean new
    → text_so_far new ≡ option_map (λ t. t ++ now) (text_so_far mid) → rest ≡ now ++ next
    → IsClean new × (option_map (λ t. t ++ next) (text_so_far new) ≡ all)
more_written mid new now rest next all upto clean text more =
    let whole = ap (λ rest. option_map (λ t. t ++ rest) (text_so_far mid)) (sym more) ∙ upto.1 in
    (clean, text_step (text_so_far mid) (text_so_far new) all now next text whole)

nothing_left : (text : Option (List ℕ)) → text ≡ option_map (λ t. t ++ []) text
nothing_left None = refl
nothing_left (Some t) = ap (λ x. Some x) (sym (append-nil t))

-- no row is left
pub all_written : {A : Type 0} (old now : Writer (Vec ℕ A)) (rest all : List Row) → rest ≡ [] → IsUpto old now rest all
    → record { clean : IsClean now; text : text_so_far now ≡ option_map (λ t. t ++ csv_text all) (text_so_far old) }
all_written old now rest all none upto = record {
  clean = upto.0;
  text = nothing_left (text_so_far now) ∙ (rw none at upto.1);
}

pub csv_text-append : (rows more : List Row) → csv_text (rows ++ more) ≡ csv_text rows ++ csv_text more
csv_text-append [] more = refl
csv_text-append (row ∷ rows) more =
    ap (λ t. row_text default_writer row ++ t) (csv_text-append rows more)
    ∙ sym (append_assoc (row_text default_writer row) (csv_text rows) (csv_text more))

rest_of : {X : Type 0} (xs : List X) (i : ℕ) (d : X) → i < length xs → drop i xs ≡ get_or xs i d ∷ drop (i + 1) xs
rest_of xs i d lt = rw add-one (drop-cons xs i d lt)

-- the next row of counted ones
pub counted-more : {X : Type 0} (row : ℕ → X → Row) (n i : ℕ) (xs : List X) (d : X) → i < length xs
    → csv_text (counted row n (drop i xs)) ≡ row_text default_writer (row n (get_or xs i d))
    ++ csv_text (counted row (n + 1) (drop (i + 1) xs))
counted-more row n i xs d lt = ap (λ l. csv_text (counted row n l)) (rest_of xs i d lt)

-- the next row of a report change
pub reports-more : (i : ℕ) (changes : List ReportChange) (change : ReportChange) → slice_get changes i ≡ Some change
    → csv_text (map report_row (drop i changes)) ≡ row_text default_writer (report_row change)
    ++ csv_text (map report_row (drop (i + 1) changes))
reports-more i changes change at =
    let there : i < length changes = slice_get_within changes i change at in
    ap (λ l. csv_text (map report_row l))
    (rest_of changes i change there ∙ ap (λ c. c ∷ drop (i + 1) changes) (get_or_from_slice_get changes i change change at))

-- the members of the next group
pub member_rows-more : (objects : Objects) (n i : ℕ) (groups : GroupList) (d : List ℕ × List ℕ) → i < length groups
    → csv_text (member_rows objects n (drop i groups))
    ≡ csv_text (counted (member_row objects (get_or groups i d).0) n (get_or groups i d).1)
    ++ csv_text (member_rows objects (n + length (get_or groups i d).1) (drop (i + 1) groups))
member_rows-more objects n i groups d lt =
    ap (λ l. csv_text (member_rows objects n l)) (rest_of groups i d lt)
    ∙ csv_text-append (counted (member_row objects (get_or groups i d).0) n (get_or groups i d).1) _

-- the changes of the next update
pub change_rows-more : (objects : Objects) (k i : ℕ) (sets : List (List Change)) → i < length sets
    → csv_text (change_rows objects k (drop i sets))
    ≡ csv_text (counted (change_row objects k) 1 (get_or sets i [])) ++ csv_text (change_rows objects (k + 1) (drop (i + 1) sets))
change_rows-more objects k i sets lt =
    ap (λ l. csv_text (change_rows objects k l)) (rest_of sets i [] lt)
    ∙ csv_text-append (counted (change_row objects k) 1 (get_or sets i [])) _

-- a name that a table gives at a place
pub name_at-is : {V : Type 0} (table : List (List ℕ × V)) (i : ℕ) (name : List ℕ)
    → option_map (λ (e : List ℕ × V). e.0) (slice_get table i) ≡ Some name
    → name_at table i ≡ name
name_at-is {V} table i name h = get_or_from_slice_get (names_of table) i name [] (slice_get-map (λ (e : List ℕ × V). e.0) table i ∙ h)

-- rows that were written after a text
abbrev Adds : Option (List ℕ) → List Row → Option (List ℕ) → Type 0
Adds old rows new = new ≡ option_map (λ t. t ++ csv_text rows) old

-- the rows before those of the changes, one kind after the other
pub first_written : (head : Row) (objects members limits : List Row) (t0 t1 t2 t3 t4 : Option (List ℕ))
    → t1 ≡ option_map (λ t. t ++ row_text default_writer head) t0 → Adds t1 objects t2 → Adds t2 members t3 → Adds t3 limits t4
    → Adds t0 (head ∷ (objects ++ members ++ limits)) t4
first_written head objects members limits None t1 t2 t3 t4 e1 e2 e3 e4 = rw (e4, e3, e2, e1) refl
first_written head objects members limits (Some t) t1 t2 t3 t4 e1 e2 e3 e4 =
    rw (e4, e3, e2, e1) (ap (λ t. Some t) (simp (csv_text-append, append_assoc)))

-- the text of a record is that of its first rows and that of its last ones
pub two_parts : (version : Version) (r : RecordState)
    → csv_text (first_rows version r) ++ csv_text (last_rows r) ≡ csv_text (rows_in version r)
two_parts version r =
    let rows : first_rows version r ++ last_rows r ≡ rows_in version r = simp append_assoc in
    sym (csv_text-append (first_rows version r) (last_rows r)) ∙ ap csv_text rows
