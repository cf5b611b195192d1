-- Rows that are read one after another.
use Rattle.std.specs.Prelude.{ℕ, ℤ, ◌+◌, ◌-◌, ◌==◌, ◌&&◌, not, Bool, List, [], ◌∷◌, ◌++◌, length, map, nat_lt, nat_le}
use Rattle.std.specs.Prelude.{slice_index_or, slice_set, Option, Some, None, option_map, option_and_then, codes, if◌then◌else◌}
use Rattle.std.specs.Bool.{then_some}
use Rattle.std.specs.List.{list_any}
use Rattle.std.specs.Option.{is_none}
use Rattle.std.specs.Str.{bytes_eq}
use Rattle.ordup_grammar.specs.Numbers.{number_of}
use Rattle.ordup_objects.specs.Names.{is_name}
use Rattle.ordup_objects.specs.Sets.{set_refusal}
use Rattle.ordup_objects.specs.Sizes.{most_updates}
use Rattle.ordup_objects.specs.Tables.{index_of, object_refusal}
use Rattle.ordup_objects.specs.declared.change.Change.{Change}
use Rattle.ordup_objects.specs.declared.refusal.Refusal.{Refusal}
use Rattle.ordup_log.specs.Groups.{GroupList, group_refusal, last_members, member_refusal, with_member}
use Rattle.ordup_limits.specs.Entries.{Entries, are_one_entry, change_refusal, entry_of}
use Rattle.ordup_limits.specs.declared.limit_entry.LimitEntry.{LimitEntry}
use Rattle.ordup_audit.specs.Records.{RecordState}
use Rattle.ordup_audit.specs.Rows.{member_count}
use Rattle.ordup_audit.specs.Sizes.{most_windows}
use Rattle.ordup_audit.specs.declared.report_change.ReportChange.{ReportChange}
use Rattle.ordup_rows.specs.Columns.{◌>>=◌, Columns, columns_of, amount_by, natural_of, writes, scope_of, change_by}
use Rattle.ordup_rows.specs.RowKinds.{kind_of}
use Rattle.ordup_rows.specs.Rows.{Row}
use Rattle.ordup_rows.specs.Versions.{version_of}
use Rattle.ordup_rows.specs.declared.row_kind.RowKind.{RowKind}
use Rattle.ordup_rows.specs.declared.row_kind.RowKind.TheVariants as kind
use Rattle.ordup_rows.specs.declared.version.Version.{Version}

-- the last number of a list, and 0 where there is none
abbrev pub last_number : List ℕ → ℕ
last_number xs = slice_index_or xs (length xs - 1) 0

-- no window is there yet
abbrev pub is_before_windows : RecordState → Bool
is_before_windows r = length r.windows == 0

-- no round is there yet, and nothing that comes after the rounds
abbrev pub is_before_rounds : RecordState → Bool
is_before_rounds r = length r.rounds == 0 && is_before_windows r

-- no report is there yet, and nothing that comes after the reports
abbrev pub is_before_reports : RecordState → Bool
is_before_reports r = length r.reports == 0 && is_before_rounds r

-- no update is there yet, and nothing that comes after the updates
abbrev pub is_before_changes : RecordState → Bool
is_before_changes r = length r.sets == 0 && is_before_reports r

-- no limit is there yet, and nothing that comes after the limits
abbrev pub is_before_limits : RecordState → Bool
is_before_limits r = length r.limits == 0 && is_before_changes r

-- no member is there yet, and nothing that comes after the members
abbrev pub is_before_members : RecordState → Bool
is_before_members r = length r.groups == 0 && is_before_limits r

-- an object is there
abbrev pub has_objects : RecordState → Bool
has_objects r = nat_lt 0 (length r.objects)

-- an object is there, and each decided update
abbrev pub has_updates : ℕ → RecordState → Bool
has_updates decided r = has_objects r && (length r.sets == decided)

-- the record with the object of a row, which has this value
abbrev pub with_value : RecordState → Columns → ℤ → Option RecordState
with_value r c value =
    then_some
    (is_before_members r && writes c.first (length r.objects + 1) && is_none (object_refusal r.objects c.second value))
    (record r { objects = r.objects ++ (c.second, value) ∷ [] })

-- the record with the object of a row
abbrev pub with_object : RecordState → Columns → Option RecordState
with_object r c = option_and_then (with_value r c) (number_of c.third)

-- the name of the last group
abbrev pub last_name : GroupList → List ℕ
last_name groups = (slice_index_or groups (length groups - 1) ([], [])).0

-- the last group has this name
abbrev pub is_last_group : GroupList → List ℕ → Bool
is_last_group groups name = nat_lt 0 (length groups) && bytes_eq name (last_name groups)

-- why a member of a group of this name is refused, if it is: it is of the last group, or the first of one that is new
abbrev pub membership_refusal : ℕ → GroupList → List ℕ → ℕ → Option Refusal
membership_refusal n groups name x =
    if is_last_group groups name then member_refusal n (last_members groups) x else group_refusal n groups name (x ∷ [])

-- the groups with this member
abbrev pub with_membership : GroupList → List ℕ → ℕ → GroupList
with_membership groups name x = if is_last_group groups name then with_member groups x else groups ++ (name, x ∷ []) ∷ []

-- the record with the member of a row
abbrev pub with_member_row : RecordState → Columns → Option RecordState
with_member_row r c = do
  x ← index_of c.third r.objects
  then_some
      (is_before_limits r && writes c.first (member_count r.groups + 1) && is_none
      (membership_refusal (length r.objects) r.groups c.second x))
      (record r { groups = with_membership r.groups c.second x })

-- the place from which the last of these limits holds, 0 where there is none
abbrev pub last_place : Entries → ℕ
last_place entries = last_number (map (λ (e : LimitEntry). e.place) entries)

-- the next limit may hold from a place: from 1 to the one after the last decided place, and not before the limit before it
abbrev pub may_hold_from : ℕ → Entries → ℕ → Bool
may_hold_from decided entries place = nat_lt 0 place && nat_le place (decided + 1) && nat_le (last_place entries) place

-- one of these limits is of this one's scope and place
abbrev pub has_entry : Entries → LimitEntry → Bool
has_entry entries e = list_any (λ f. are_one_entry f e) entries

-- a limit may come next: it may hold from its place, and none of the limits is of its scope and place
abbrev pub may_limit : ℕ → Entries → LimitEntry → Bool
may_limit decided entries e = may_hold_from decided entries e.place && not (has_entry entries e)

-- the record with this limit of a row
abbrev pub with_next_limit : ℕ → RecordState → Columns → LimitEntry → Option RecordState
with_next_limit decided r c e =
    then_some
    (has_objects r && is_before_changes r && writes c.first (length r.limits + 1) && may_limit decided r.limits e
    && is_none (change_refusal (length r.objects) r.groups r.limits e))
    (record r { limits = r.limits ++ e ∷ [] })

-- the record with the limit of a row
abbrev pub with_limit : Version → ℕ → RecordState → Columns → Option RecordState
with_limit version decided r c = do
  scope ← scope_of r.objects r.groups c.second
  limit ← amount_by version c.third
  with_next_limit decided r c (entry_of scope limit.0 limit.1)

-- the changes of the last update
abbrev pub last_set : List (List Change) → List Change
last_set sets = slice_index_or sets (length sets - 1) []

-- the updates with a change more in the last one
abbrev pub with_change : List (List Change) → Change → List (List Change)
with_change sets c = slice_set sets (length sets - 1) (last_set sets ++ c ∷ [])

-- the record with the first change of the next update
abbrev pub with_first_change : ℕ → RecordState → Columns → Change → Option RecordState
with_first_change decided r c change =
    then_some
    (is_before_reports r && nat_lt (length r.sets) decided && writes c.first (length r.sets + 1)
    && is_none (set_refusal (length r.objects) (change ∷ [])))
    (record r { sets = r.sets ++ (change ∷ []) ∷ [] })

-- the record with one change more of the last update
abbrev pub with_next_change : RecordState → Columns → Change → Option RecordState
with_next_change r c change =
    then_some
    (is_before_reports r && writes c.first (length r.sets) && writes c.second (length (last_set r.sets) + 1)
    && is_none (set_refusal (length r.objects) (last_set r.sets ++ change ∷ [])))
    (record r { sets = with_change r.sets change })

-- the record with this change of a row
abbrev pub with_any_change : ℕ → RecordState → Columns → Change → Option RecordState
with_any_change decided r c change =
    if writes c.second 1 then with_first_change decided r c change else with_next_change r c change

-- the record with the change of a row
abbrev pub with_change_row : ℕ → RecordState → Columns → Option RecordState
with_change_row decided r c = option_and_then (with_any_change decided r c) (change_by r.objects c.third)

-- a report change may come next
abbrev pub may_report : ℕ → RecordState → ℕ → ℕ → Bool
may_report decided r place reported =
    has_updates decided r && is_before_rounds r
    && nat_lt (last_number (map (λ (c : ReportChange). c.place) r.reports)) place && nat_le place decided
    && nat_lt (last_number (map (λ (c : ReportChange). c.reported) r.reports)) reported && nat_le reported most_updates

-- the record with the report change of a row
abbrev pub with_report : ℕ → RecordState → Columns → Option RecordState
with_report decided r c = do
  place ← natural_of c.first
  reported ← natural_of c.second
  then_some
      (may_report decided r place reported && bytes_eq c.third (codes "-"))
      (record r { reports = r.reports ++ (record { place = place; reported = reported }) ∷ [] })

-- the round of a place may come next
abbrev pub may_round : ℕ → RecordState → ℕ → Bool
may_round decided r place =
    has_updates decided r && is_before_windows r && nat_lt (last_number r.rounds) place && nat_le place decided

-- the record with the round of a row
abbrev pub with_round : ℕ → RecordState → Columns → Option RecordState
with_round decided r c = do
  place ← natural_of c.second
  then_some
      (may_round decided r place && bytes_eq c.third (codes "-") && writes c.first (length r.rounds + 1))
      (record r { rounds = r.rounds ++ place ∷ [] })

-- the record with the window of a row
abbrev pub with_window : ℕ → RecordState → Columns → Option RecordState
with_window decided r c = do
  from ← natural_of c.second
  to ← natural_of c.third
  then_some
      (has_updates decided r && writes c.first (length r.windows + 1) && nat_lt (length r.windows) most_windows
      && nat_le from decided && nat_le to decided)
      (record r { windows = r.windows ++ (record { from = from; to = to }) ∷ [] })

-- the record with one row more, where a row of this kind may stand there
abbrev pub with_row : Version → ℕ → RecordState → RowKind → Columns → Option RecordState
with_row version decided r kind.Object c = with_object r c
with_row version decided r kind.Member c = with_member_row r c
with_row version decided r kind.Limit c = with_limit version decided r c
with_row version decided r kind.Change c = with_change_row decided r c
with_row version decided r kind.Report c = with_report decided r c
with_row version decided r kind.Round c = with_round decided r c
with_row version decided r kind.Window c = with_window decided r c

-- how far a reading has come: no row was read; or the version, how many updates are decided, and the record as far as its rows
-- were read
pub data Stage : Type 0 where
  unread : Stage
  reading : Version → ℕ → RecordState → Stage

-- a record of which nothing is there but the name of its site
abbrev pub record_at : List ℕ → RecordState
record_at site = record {
  site = site;
  objects = [];
  groups = [];
  limits = [];
  sets = [];
  reports = [];
  rounds = [];
  windows = [];
}

-- the stage after the first row
abbrev pub head_of : Columns → Option Stage
head_of c = do
  version ← version_of c.first
  decided ← natural_of c.third
  then_some
      (bytes_eq c.kind (codes "ordup") && is_name c.second && nat_le decided most_updates)
      (reading version decided (record_at c.second))

-- the stage after one row more, where the row may stand there
abbrev pub step : Stage → Row → Option Stage
step unread row = option_and_then head_of (columns_of row)
step (reading version decided r) row = do
  c ← columns_of row
  kind ← kind_of c.kind
  option_map (λ next. reading version decided next) (with_row version decided r kind c)

-- the stage after rows, where each may stand there
abbrev pub run : Stage → List Row → Option Stage
run stage [] = Some stage
run stage (row ∷ rows) = option_and_then (λ next. run next rows) (step stage row)

-- the record, where no row is missing
abbrev pub closed : Stage → Option RecordState
closed unread = None
closed (reading version decided r) = then_some (has_updates decided r) r

-- the record that is read from rows, one after another: none where a row may not stand where it stands, or where rows are missing
abbrev pub record_read : List Row → Option RecordState
record_read rows = option_and_then closed (run unread rows)
