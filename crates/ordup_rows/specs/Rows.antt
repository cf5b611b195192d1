-- The rows that tell a record.
use Rattle.std.specs.Prelude.{ℕ, ℤ, ◌+◌, List, [], ◌∷◌, ◌++◌, length, map, codes, slice_index_or}
use Rattle.std.specs.Fmt.{decimal, signed_decimal}
use Rattle.std.specs.List.{join_with_byte}
use Rattle.ordup_objects.specs.Tables.{Objects, names_of}
use Rattle.ordup_objects.specs.declared.change.Change.{Change}
use Rattle.ordup_objects.specs.declared.change.Op.{Op}
use Rattle.ordup_objects.specs.declared.change.Op.TheVariants.{Add, Set, Mul, Max, Min, Take}
use Rattle.ordup_log.specs.Groups.{GroupList}
use Rattle.ordup_log.specs.declared.scope.Scope.{Scope}
use Rattle.ordup_log.specs.declared.scope.Scope.TheVariants.{Object, Group, All as Everything, Count}
use Rattle.ordup_limits.specs.declared.limit_entry.LimitEntry.{LimitEntry}
use Rattle.ordup_rounds.specs.declared.window.Window.{Window}
use Rattle.ordup_audit.specs.Records.{RecordState}
use Rattle.ordup_audit.specs.declared.report_change.ReportChange.{ReportChange}
use Rattle.ordup_rows.specs.Versions.{version_for, version_text}
use Rattle.ordup_rows.specs.declared.version.Version.{Version}
use Rattle.ordup_rows.specs.declared.version.Version.TheVariants.{First, Second}

-- a row, by the bytes of its columns
abbrev pub Row : Type 0
Row = List (List ℕ)

-- the name at a place of a table
abbrev pub name_at : {V : Type 0} → List (List ℕ × V) → ℕ → List ℕ
name_at table place = slice_index_or (names_of table) place []

-- rows that are counted from a number on, one for each entry of a list
abbrev pub counted : {X : Type 0} → (ℕ → X → Row) → ℕ → List X → List Row
counted row i [] = []
counted row i (x ∷ xs) = row i x ∷ counted row (i + 1) xs

-- `ordup,1,SITE,DECIDED` or `ordup,2,SITE,DECIDED`
abbrev pub first_row : Version → List ℕ → ℕ → Row
first_row version site decided = codes "ordup" ∷ version_text version ∷ site ∷ decimal decided ∷ []

-- `object,I,NAME,VALUE`
abbrev pub object_row : ℕ → List ℕ × ℤ → Row
object_row i object = codes "object" ∷ decimal i ∷ object.0 ∷ signed_decimal object.1 ∷ []

-- `member,I,GROUP,OBJECT`
abbrev pub member_row : Objects → List ℕ → ℕ → ℕ → Row
member_row objects group i object = codes "member" ∷ decimal i ∷ group ∷ name_at objects object ∷ []

-- the rows of the members of groups, counted through all groups
abbrev pub member_rows : Objects → ℕ → GroupList → List Row
member_rows objects i [] = []
member_rows objects i (g ∷ groups) = counted (member_row objects g.0) i g.1 ++ member_rows objects (i + length g.1) groups

-- `object:X`, `group:G`, `all` or `count`
abbrev pub scope_text : Objects → GroupList → Scope → List ℕ
scope_text objects groups (Object x) = codes "object:" ++ name_at objects x
scope_text objects groups (Group g) = codes "group:" ++ name_at groups g
scope_text objects groups Everything = codes "all"
scope_text objects groups Count = codes "count"

-- `N`, or in the second version `N@K`
abbrev pub amount_text : Version → LimitEntry → List ℕ
amount_text First e = decimal e.limit.amount
amount_text Second e = join_with_byte 64 (decimal e.limit.amount ∷ decimal e.place ∷ [])

-- `limit,I,SCOPE,N`, or in the second version `limit,I,SCOPE,N@K`
abbrev pub limit_row : Version → Objects → GroupList → ℕ → LimitEntry → Row
limit_row version objects groups i e =
    codes "limit" ∷ decimal i ∷ scope_text objects groups e.limit.scope ∷ amount_text version e ∷ []

-- the three parts of the word of a change, with a colon between each two
abbrev pub change_word : List ℕ → List ℕ → List ℕ → List ℕ
change_word kind x operand = join_with_byte 58 (kind ∷ x ∷ operand ∷ [])

-- `add:X:n`, `set:X:n`, `mul:X:n`, `max:X:n`, `min:X:n` or `take:X:Y`, of the object X
abbrev pub operation_text : Objects → List ℕ → Op → List ℕ
operation_text objects x (Add n) = change_word (codes "add") x (signed_decimal n)
operation_text objects x (Set n) = change_word (codes "set") x (signed_decimal n)
operation_text objects x (Mul n) = change_word (codes "mul") x (signed_decimal n)
operation_text objects x (Max n) = change_word (codes "max") x (signed_decimal n)
operation_text objects x (Min n) = change_word (codes "min") x (signed_decimal n)
operation_text objects x (Take y) = change_word (codes "take") x (name_at objects y)

-- the word of a change
abbrev pub change_text : Objects → Change → List ℕ
change_text objects c = operation_text objects (name_at objects c.object) c.op

-- `change,K,POS,CHANGE`
abbrev pub change_row : Objects → ℕ → ℕ → Change → Row
change_row objects k position c = codes "change" ∷ decimal k ∷ decimal position ∷ change_text objects c ∷ []

-- the rows of the changes of updates, the first of which has this number
abbrev pub change_rows : Objects → ℕ → List (List Change) → List Row
change_rows objects k [] = []
change_rows objects k (m ∷ sets) = counted (change_row objects k) 1 m ++ change_rows objects (k + 1) sets

-- `report,K,R,-`
abbrev pub report_row : ReportChange → Row
report_row c = codes "report" ∷ decimal c.place ∷ decimal c.reported ∷ codes "-" ∷ []

-- `round,I,K,-`
abbrev pub round_row : ℕ → ℕ → Row
round_row i place = codes "round" ∷ decimal i ∷ decimal place ∷ codes "-" ∷ []

-- `window,I,A,B`
abbrev pub window_row : ℕ → Window → Row
window_row i w = codes "window" ∷ decimal i ∷ decimal w.from ∷ decimal w.to ∷ []

-- the rows, in a version, of a record as far as it is there, where this many updates are decided
abbrev pub rows_so_far : Version → ℕ → RecordState → List Row
rows_so_far version decided r =
    first_row version r.site decided
    ∷ (counted object_row 1 r.objects
    ++ member_rows r.objects 1 r.groups
    ++ counted (limit_row version r.objects r.groups) 1 r.limits
    ++ change_rows r.objects 1 r.sets
    ++ map report_row r.reports
    ++ counted round_row 1 r.rounds
    ++ counted window_row 1 r.windows)

-- the rows of a record in a version
abbrev pub rows_in : Version → RecordState → List Row
rows_in version r = rows_so_far version (length r.sets) r

-- the rows of a record, as it is written: in the first version where all limits hold from place 1 on, else in the second
abbrev pub rows_of : RecordState → List Row
rows_of r = rows_in (version_for r.limits) r

-- the line of a row: its columns, with a comma between each two, and a line feed
abbrev pub row_line : Row → List ℕ
row_line row = join_with_byte 44 row ++ 10 ∷ []

-- the text of rows, one line after the other
abbrev pub rows_text : List Row → List ℕ
rows_text [] = []
rows_text (row ∷ rows) = row_line row ++ rows_text rows
