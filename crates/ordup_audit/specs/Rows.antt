-- The rows of a record, counted from 1: the first, then those of the objects, of the members of all groups, of the limits, of the
-- changes of all updates, of the reports, of the rounds and of the windows.
use Rattle.std.specs.Prelude.{ℕ, ◌+◌, length, sum_by, take}
use Rattle.ordup_log.specs.Groups.{GroupList}
use Rattle.ordup_audit.specs.Records.{RecordState}

-- how many members all groups have
abbrev pub member_count : GroupList → ℕ
member_count groups = sum_by (λ g. length g.1) groups

-- how many changes the first n updates have
abbrev pub change_count : RecordState → ℕ → ℕ
change_count r n = sum_by (λ m. length m) (take n r.sets)

-- how many rows there are before those of the changes
abbrev pub rows_before_changes : RecordState → ℕ
rows_before_changes r = 1 + length r.objects + member_count r.groups + length r.limits

-- the row of the change after the first p, of the update after the first i
abbrev pub change_row : RecordState → ℕ → ℕ → ℕ
change_row r i p = rows_before_changes r + change_count r i + p + 1

-- how many rows there are before those of the windows
abbrev pub rows_before_windows : RecordState → ℕ
rows_before_windows r = rows_before_changes r + change_count r (length r.sets) + length r.reports + length r.rounds

-- the row of the window after the first j
abbrev pub window_row : RecordState → ℕ → ℕ
window_row r j = rows_before_windows r + j + 1

-- the last row
abbrev pub last_row : RecordState → ℕ
last_row r = rows_before_windows r + length r.windows
