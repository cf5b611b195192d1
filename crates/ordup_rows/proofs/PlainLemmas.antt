-- No column of a record's rows needs quotes: `csv` writes each row as its columns with commas between them.
use Rattle.ordup_audit.proofs.Common.{◌++◌, ◌+◌, ◌<◌, ◌==◌, ◌^◌, ◌||◌, ◌∙◌, ◌∷◌, ◌≡◌, ◌≤◌, [], Add, All, All-cons, All-map, All-nil}
use Rattle.ordup_audit.proofs.Common.{All-tail, ap, append-nil, AreKnown, AreNames, arith, Bool, Change}
use Rattle.ordup_audit.proofs.Common.{codes, Count, decimal, Everything, false, get_or-map, greatest_amount, Group}
use Rattle.ordup_audit.proofs.Common.{GroupList, IfSome, initial_state, is_ascii_digit, is_name, is_name_byte, IsInRange, IsKnown}
use Rattle.ordup_audit.proofs.Common.{IsRecord, IsScopeKnown, IsSet, IsState, leb-true, length, length-append, length-map, List}
use Rattle.ordup_audit.proofs.Common.{list_all, list_any, list_any-append, map, Max, Min, most_updates, Mul, nat_tests, negsuc}
use Rattle.ordup_audit.proofs.Common.{Object, Objects, Op, op_number, or_from, or_parts, pos, RecordState, refl, Scope, Set}
use Rattle.ordup_audit.proofs.Common.{signed_decimal, source_of, suc, Take, true, unsigned_abs, Window, ℕ, ℤ}
use Rattle.std.proofs.Common.{lit<, lit≤}
use Rattle.std.proofs.lemmas.Fmt.{length-decimal-le}
use Rattle.std.proofs.lemmas.List.Elements.{All-append}
use Rattle.std.proofs.lemmas.List.Folds.{list_any_none}
use Rattle.csv.specs.Quoting.{needs_byte}
use Rattle.csv.specs.Writing.{default_writer, fields_text, is_blank, needs_quotes, row_text}
use Rattle.ordup_limits.specs.declared.limit_entry.LimitEntry.{LimitEntry}
use Rattle.ordup_audit.specs.declared.report_change.ReportChange.{ReportChange}
use Rattle.ordup_objects.specs.Sizes.{most_name_bytes}
use Rattle.ordup_rows.specs.Forming.{csv_text}
use Rattle.ordup_rows.specs.Rows.{Row, amount_text, change_row, change_rows, change_word, counted, first_row, limit_row, member_row}
use Rattle.ordup_rows.specs.Rows.{member_rows, name_at, object_row, operation_text, report_row, round_row, row_line, rows_in, rows_text}
use Rattle.ordup_rows.specs.Rows.{scope_text, window_row}
use Rattle.ordup_audit.specs.Rows.{member_count}
use Rattle.ordup_rows.specs.Versions.{version_text}
use Rattle.ordup_rows.specs.declared.version.Version.{Version}
use Rattle.ordup_rows.specs.declared.version.Version.TheVariants.{First, Second}
use Rattle.ordup_audit.proofs.AscendingLemmas.{rounds-few}
use Rattle.ordup_rows.proofs.Columns.{parts_3}
use Rattle.ordup_rows.proofs.Growth.{member_count-more}
use Rattle.ordup_rows.proofs.ReadingBack.{HasNumber, member_count-few}
use Rattle.ordup_rows.proofs.RecordsSoFar.{HasKnown, HasName}
use Rattle.ordup_rows.proofs.Words.{decimal_bytes, name_bytes, name_of}

-- a byte that calls for quotes, or is 0
abbrev pub is_special : ℕ → Bool
is_special b = needs_byte default_writer b || (b == 0)

-- a column of at most this many bytes, with none of these
pub record IsPlain (most : ℕ) (column : List ℕ) : Type 0 where
  pub plain : list_any is_special column ≡ false
  pub few : length column ≤ most

-- a row with a byte that is 0
abbrev pub has_zero : Row → Bool
has_zero row = list_any (list_any (λ b. b == 0)) row

-- a row that is written as its line, has no byte that is 0, and is short
pub record IsLine (row : Row) : Type 0 where
  pub text : row_text default_writer row ≡ row_line row
  pub no_zero : has_zero row ≡ false
  pub short : length (row_line row) ≤ 100

-- bytes that are none of these are none of those
none_of : (p q : ℕ → Bool) → ((b : ℕ) → q b ≡ false → p b ≡ false) → (bytes : List ℕ) → list_any q bytes ≡ false → list_any p bytes ≡ false
none_of p q less [] none = refl
none_of p q less (b ∷ bytes) none =
    let both = or_parts (q b) (list_any q bytes) none in
    or_from (p b) (list_any p bytes) (less b both.0) (none_of p q less bytes both.1)

unquoted : (n : ℕ) (column : List ℕ) → IsPlain n column → needs_quotes default_writer column ≡ false
unquoted n column is =
    none_of (needs_byte default_writer) is_special (λ b none. (or_parts (needs_byte default_writer b) (b == 0) none).0)
    column is.plain

without_zero : (n : ℕ) (column : List ℕ) → IsPlain n column → list_any (λ b. b == 0) column ≡ false
without_zero n column is =
    none_of (λ b. b == 0) is_special (λ b none. (or_parts (needs_byte default_writer b) (b == 0) none).1) column is.plain

line_length : (a b c d : List ℕ) → length (row_line (a ∷ b ∷ c ∷ d ∷ [])) ≡ length a + length b + length c + length d + 4
line_length a b c d =
    let whole = length-append (a ++ 44 ∷ (b ++ 44 ∷ (c ++ 44 ∷ d))) (10 ∷ []) in
    omega (arith, whole, length-append a (44 ∷ (b ++ 44 ∷ (c ++ 44 ∷ d))), length-append b (44 ∷ (c ++ 44 ∷ d)), length-append c (44 ∷ d))

pub IsLine-columns : {i j k l : ℕ} {a b c d : List ℕ} → IsPlain i a → IsPlain j b → IsPlain k c → IsPlain l d → i + j + k + l ≤ 96
    → IsLine (a ∷ b ∷ c ∷ d ∷ [])
unfolding fields_text is_blank
IsLine-columns {i} {j} {k} {l} {a} {b} {c} {d} pa pb pc pd most = record {
  text = rw (unquoted i a pa, unquoted j b pb, unquoted k c pc, unquoted l d pd, append-nil d) refl;
  no_zero = rw (without_zero i a pa, without_zero j b pb, without_zero k c pc, without_zero l d pd) refl;
  short = omega (arith, most, line_length a b c d, pa.few, pb.few, pc.few, pd.few);
}

pub lines : (rows : List Row) → All IsLine rows → csv_text rows ≡ rows_text rows
lines [] are = refl
lines (row ∷ rows) are =
    let line = are 0 row (omega arith) in
    ap (λ t. t ++ csv_text rows) line.text
    ∙ ap (λ t. row_line row ++ t) (lines rows (λ k d lt. are (suc k) d (omega arith)))

digit_plain : (b : ℕ) → is_ascii_digit b ≡ true → is_special b ≡ false
digit_plain b h = grind (arith, nat_tests)

pub decimal_plain : (n : ℕ) → n < 10 ^ 19 → IsPlain 19 (decimal n)
decimal_plain n small = record {
  plain = list_any_none is_special (decimal n) (decimal_bytes (λ b. is_special b ≡ false) digit_plain n small);
  few = length-decimal-le 19 n (lit< tt) small (omega arith);
}

pub number_plain : (z : ℤ) → unsigned_abs z < 10 ^ 19 → IsPlain 20 (signed_decimal z)
number_plain (pos n) small = let is = decimal_plain n small in record { plain = is.plain; few = omega (arith, is.few) }
number_plain (negsuc n) small =
    let is = decimal_plain (suc n) (omega arith) in
    record { plain = is.plain; few = omega (arith, is.few) }

name_byte_plain : (b : ℕ) → is_name_byte b ≡ true → is_special b ≡ false
name_byte_plain b h = grind (arith, nat_tests)

pub name_plain : (name : List ℕ) → is_name name ≡ true → IsPlain 16 name
name_plain name h =
    let (letter, size, bytes) = parts_3 {c = list_all is_name_byte name} h in
    record {
      plain = list_any_none is_special name (name_bytes (λ b. is_special b ≡ false) name_byte_plain name h);
      few = leb-true (length name) most_name_bytes size;
    }

-- a name that a table has
named_plain : {V : Type 0} (table : List (List ℕ × V)) (place : ℕ) → AreNames table → place < length table
    → IsPlain 16 (name_at table place)
named_plain table place names lt = name_plain (name_at table place) (name_of table place names lt)

pub join_plain : {m n : ℕ} (x y : List ℕ) → IsPlain m x → IsPlain n y → IsPlain (m + n) (x ++ y)
join_plain {m} {n} x y px py = record {
  plain = list_any-append is_special x y ∙ or_from _ _ px.plain py.plain;
  few = omega (arith, length-append x y, px.few, py.few);
}

colon_plain : {n : ℕ} (x : List ℕ) → IsPlain n x → IsPlain (n + 1) (58 ∷ x)
colon_plain {n} x px = record { plain = px.plain; few = omega (arith, px.few) }

pub word_plain : {m n : ℕ} (kind x operand : List ℕ) → IsPlain m kind → IsPlain n operand → IsPlain 16 x
    → m + n ≤ 24 → IsPlain 42 (change_word kind x operand)
word_plain {m} {n} kind x operand pk po px most =
    let rest = colon_plain (x ++ 58 ∷ operand) (join_plain x (58 ∷ operand) px (colon_plain operand po)) in
    let word = join_plain kind (58 ∷ (x ++ 58 ∷ operand)) pk rest in
    record { plain = word.plain; few = omega (arith, most, word.few) }

-- a column of these bytes
code : (column : List ℕ) → list_any is_special column ≡ false → IsPlain (length column) column
code column plain = record { plain = plain; few = omega arith }

wider : {m : ℕ} (n : ℕ) (column : List ℕ) → IsPlain m column → m ≤ n → IsPlain n column
wider n column is le = record { plain = is.plain; few = omega (arith, le, is.few) }

-- counted rows, each of which is a line
pub counted_lines : {X : Type 0} (row : ℕ → X → Row) (P : X → Type 0) (most : ℕ) → ((i : ℕ) (x : X) → i ≤ most → P x → IsLine (row i x))
    → (i : ℕ) (xs : List X) → i + length xs ≤ most + 1 → All P xs → All IsLine (counted row i xs)
counted_lines row P most each i [] few all = All-nil IsLine
counted_lines row P most each i (x ∷ xs) few all =
    All-cons IsLine (row i x) (counted row (i + 1) xs) (each i x (omega arith) (all 0 x (omega arith)))
    (counted_lines row P most each (i + 1) xs (omega arith) (λ k d lt. all (suc k) d (omega arith)))

-- ---- the rows of a record

number_word : (kind x : List ℕ) (n : ℤ) → IsPlain 3 kind → IsPlain 16 x → IsInRange n → IsPlain 42 (change_word kind x (signed_decimal n))
number_word kind x n pk px range = word_plain kind x (signed_decimal n) pk (number_plain n (omega arith)) px (lit≤ tt)

operation_plain : (objects : Objects) (x : List ℕ) (op : Op) → AreNames objects → IsPlain 16 x
    → IfSome (source_of op) (λ y. y < length objects)
    → IfSome (op_number op) IsInRange → IsPlain 42 (operation_text objects x op)
operation_plain objects x (Add n) names px known range = number_word (codes "add") x n (code (codes "add") refl) px range
operation_plain objects x (Set n) names px known range = number_word (codes "set") x n (code (codes "set") refl) px range
operation_plain objects x (Mul n) names px known range = number_word (codes "mul") x n (code (codes "mul") refl) px range
operation_plain objects x (Max n) names px known range = number_word (codes "max") x n (code (codes "max") refl) px range
operation_plain objects x (Min n) names px known range = number_word (codes "min") x n (code (codes "min") refl) px range
operation_plain objects x (Take y) names px known range =
    word_plain (codes "take") x (name_at objects y) (code (codes "take") refl) (named_plain objects y names known) px (lit≤ tt)

scope_plain : (objects : Objects) (groups : GroupList) (s : Scope) → AreNames objects → AreNames groups
    → IsScopeKnown (length objects) groups s
    → IsPlain 23 (scope_text objects groups s)
scope_plain objects groups (Object x) names called known =
    join_plain (codes "object:") (name_at objects x) (code (codes "object:") refl) (named_plain objects x names known)
scope_plain objects groups (Group g) names called known =
    wider 23 (scope_text objects groups (Group g))
    (join_plain (codes "group:") (name_at groups g) (code (codes "group:") refl) (named_plain groups g called known)) (lit≤ tt)
scope_plain objects groups Everything names called known = wider 23 (codes "all") (code (codes "all") refl) (lit≤ tt)
scope_plain objects groups Count names called known = wider 23 (codes "count") (code (codes "count") refl) (lit≤ tt)

-- an entry of a table
record IsEntry (e : List ℕ × ℤ) : Type 0 where
  name : is_name e.0 ≡ true
  range : IsInRange e.1

entries : (objects : Objects) → AreNames objects → IsState (initial_state objects) → All IsEntry objects
entries objects names values k e lt = record {
  name = names k e lt;
  range = rw (← get_or-map (λ (e : List ℕ × ℤ). e.1) objects k e e.1 lt) (values k e.1 (simp length-map lt));
}

object_line : (i : ℕ) (e : List ℕ × ℤ) → i ≤ 4096 → IsEntry e → IsLine (object_row i e)
object_line i e few is =
    let range = is.range in
    IsLine-columns (code (codes "object") refl) (decimal_plain i (omega arith)) (name_plain e.0 is.name)
    (number_plain e.1 (omega arith)) (lit≤ tt)

groups_lines : (objects : Objects) (i : ℕ) (groups : GroupList) → AreNames objects → All HasName groups
    → All (HasKnown (length objects)) groups
    → i + member_count groups ≤ 4097 → All IsLine (member_rows objects i groups)
groups_lines objects i [] names called known few = All-nil IsLine
groups_lines objects i (g ∷ groups) names called known few =
    All-append IsLine (counted (member_row objects g.0) i g.1) (member_rows objects (i + length g.1) groups)
    (counted_lines (member_row objects g.0) (λ x. x < length objects) 4096 (λ k x most lt.
    IsLine-columns (code (codes "member") refl) (decimal_plain k (omega arith)) (name_plain g.0 (called 0 g (omega arith)))
    (named_plain objects x names lt) (lit≤ tt))
    i g.1 (omega (arith, few, member_count-more g groups)) (known 0 g (omega arith)))
    (groups_lines objects (i + length g.1) groups names (All-tail HasName g groups called)
    (All-tail (HasKnown (length objects)) g groups known) (omega (arith, few, member_count-more g groups)))

-- a change of a set that is known
record IsWritten (n : ℕ) (c : Change) : Type 0 where
  known : IsKnown n c
  range : HasNumber c

change_line : (objects : Objects) (k i : ℕ) (c : Change) → AreNames objects → k ≤ 1000001 → i ≤ 4096 → IsWritten (length objects) c
    → IsLine (change_row objects k i c)
change_line objects k i c names few place is =
    IsLine-columns (code (codes "change") refl) (decimal_plain k (omega arith)) (decimal_plain i (omega arith))
    (operation_plain objects _ c.op names (named_plain objects c.object names is.known.0) is.known.1 is.range) (lit≤ tt)

sets_lines : (objects : Objects) (k : ℕ) (sets : List (List Change)) → AreNames objects → All IsSet sets
    → All (AreKnown (length objects)) sets
    → k + length sets ≤ 1000001 → All IsLine (change_rows objects k sets)
sets_lines objects k [] names are known few = All-nil IsLine
sets_lines objects k (m ∷ sets) names are known few =
    let set = are 0 m (omega arith) in
    let size = set.few in
    All-append IsLine (counted (change_row objects k) 1 m) (change_rows objects (k + 1) sets)
    (counted_lines (change_row objects k) (IsWritten (length objects)) 4096
    (λ i c most is. change_line objects k i c names (omega arith) most is)
    1 m (omega arith) (λ k c lt. record { known = known 0 m (omega arith) k c lt; range = set.numbers k c lt }))
    (sets_lines objects (k + 1) sets names (All-tail IsSet m sets are) (All-tail (AreKnown (length objects)) m sets known) (omega arith))

abbrev pub IsReportWithin : ℕ → ReportChange → Type 0
IsReportWithin d c = (0 < c.place) × (c.place ≤ d)

version_plain : (version : Version) → IsPlain 1 (version_text version)
version_plain First = code (codes "1") refl
version_plain Second = code (codes "2") refl

-- a limit with its scope, amount and place
record IsWrittenLimit (n : ℕ) (groups : GroupList) (e : LimitEntry) : Type 0 where
  known : IsScopeKnown n groups e.limit.scope
  amount : e.limit.amount ≤ greatest_amount
  place : e.place ≤ most_updates + 1

amount_plain : (version : Version) (e : LimitEntry) → e.limit.amount ≤ greatest_amount → e.place ≤ most_updates + 1
    → IsPlain 39 (amount_text version e)
amount_plain First e amount place =
    wider 39 (decimal e.limit.amount) (decimal_plain e.limit.amount (omega arith)) (lit≤ tt)
amount_plain Second e amount place =
    let number = decimal_plain e.place (omega arith) in
    let behind : IsPlain 20 (64 ∷ decimal e.place) = record { plain = number.plain; few = omega (arith, number.few) } in
    join_plain (decimal e.limit.amount) (64 ∷ decimal e.place) (decimal_plain e.limit.amount (omega arith)) behind

seven_lines : (a b c d e f g : List Row) → All IsLine a → All IsLine b → All IsLine c → All IsLine d → All IsLine e → All IsLine f
    → All IsLine g
    → All IsLine (a ++ b ++ c ++ d ++ e ++ f ++ g)
seven_lines a b c d e f g ha hb hc hd he hf hg =
    All-append IsLine (a ++ b ++ c ++ d ++ e ++ f) g (
    All-append IsLine (a ++ b ++ c ++ d ++ e) f (
    All-append IsLine (a ++ b ++ c ++ d) e (
    All-append IsLine (a ++ b ++ c) d (
    All-append IsLine (a ++ b) c (All-append IsLine a b ha hb) hc) hd) he) hf) hg

-- the rows of a list of report changes
reports_lines : (changes : List ReportChange) (d : ℕ) → d ≤ most_updates → All (IsReportWithin d) changes
    → All (λ (c : ReportChange). (0 < c.reported) × (c.reported ≤ most_updates)) changes
    → All IsLine (map report_row changes)
reports_lines changes d few places reported = All-map IsLine report_row changes (λ k c lt.
    let place = places k c lt in
    let number = reported k c lt in
    IsLine-columns (code (codes "report") refl) (decimal_plain _ (omega (arith, place.1)))
    (decimal_plain _ (omega (arith, number.1))) (code (codes "-") refl) (lit≤ tt))

module _ (r : RecordState) (is : IsRecord r) where
  objects_lines : All IsLine (counted object_row 1 r.objects)
  objects_lines =
      let few = is.objects.few in
      counted_lines object_row IsEntry 4096 object_line 1 r.objects (omega arith) (entries r.objects is.objects.names is.objects.values)

  members_lines : All IsLine (member_rows r.objects 1 r.groups)
  members_lines =
      let few = is.groups.few in
      groups_lines r.objects 1 r.groups is.objects.names is.groups.names is.groups.known
      (omega (arith, member_count-few r.groups is.groups.each))

  limits_lines : (version : Version) → All IsLine (counted (limit_row version r.objects r.groups) 1 r.limits)
  limits_lines version =
      let few = is.limits.few in
      let updates = is.few in
      counted_lines (limit_row version r.objects r.groups) (IsWrittenLimit (length r.objects) r.groups) 4096 (λ i e most w.
      IsLine-columns (code (codes "limit") refl) (decimal_plain i (omega arith))
      (scope_plain r.objects r.groups e.limit.scope is.objects.names is.groups.names w.known) (amount_plain version e w.amount w.place)
      (lit≤ tt))
      1 r.limits (omega arith) (λ k e lt. record {
        known = is.scopes k e lt;
        amount = is.limits.amounts k e lt;
        place = omega (arith, is.begun k e lt, updates);
      })

  changes_lines : All IsLine (change_rows r.objects 1 r.sets)
  changes_lines = let few = is.few in sets_lines r.objects 1 r.sets is.objects.names is.sets is.known (omega arith)

  rounds_lines : All IsLine (counted round_row 1 r.rounds)
  rounds_lines =
      let few = is.few in
      let short = rounds-few (length r.sets) r.rounds is.rounds in
      counted_lines round_row (λ k. (0 < k) × (k ≤ length r.sets)) 1000000 (λ i k most within.
      IsLine-columns (code (codes "round") refl) (decimal_plain i (omega arith))
      (decimal_plain k (omega (arith, within.1))) (code (codes "-") refl) (lit≤ tt))
      1 r.rounds (omega (arith, short)) is.rounds.each

  windows_lines : All IsLine (counted window_row 1 r.windows)
  windows_lines =
      let few = is.few in
      let short = is.few_windows in
      counted_lines window_row (λ (w : Window). (w.from ≤ length r.sets) × (w.to ≤ length r.sets)) 1000000 (λ i w most within.
      IsLine-columns (code (codes "window") refl) (decimal_plain i (omega arith))
      (decimal_plain w.from (omega (arith, within.0))) (decimal_plain w.to (omega (arith, within.1))) (lit≤ tt))
      1 r.windows (omega arith) is.windows

  pub all_lines : (version : Version) → All IsLine (rows_in version r)
  all_lines version =
      let few = is.few in
      All-cons IsLine (first_row version r.site (length r.sets)) _
      (IsLine-columns (code (codes "ordup") refl) (version_plain version) (name_plain r.site is.site)
      (decimal_plain (length r.sets) (omega arith)) (lit≤ tt))
      (seven_lines (counted object_row 1 r.objects) (member_rows r.objects 1 r.groups) (counted (limit_row version r.objects r.groups) 1 r.limits)
      (change_rows r.objects 1 r.sets) (map report_row r.reports) (counted round_row 1 r.rounds) (counted window_row 1 r.windows)
      objects_lines members_lines (limits_lines version) changes_lines
      (reports_lines r.reports (length r.sets) few is.reports.each is.reports.reported) rounds_lines windows_lines)

  -- csv writes the rows of a record as their lines
  pub lines_of : (version : Version) → csv_text (rows_in version r) ≡ rows_text (rows_in version r)
  lines_of version = lines (rows_in version r) (all_lines version)
