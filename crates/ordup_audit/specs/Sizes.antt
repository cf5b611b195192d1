-- The sizes of records. The first is in `sizes.rt` too.
use Rattle.std.specs.Prelude.{ℕ, ◌+◌, ◌*◌}
use Rattle.ordup_objects.specs.Sizes.{most_changes, most_groups, most_members, most_objects, most_updates}
use Rattle.ordup_limits.specs.Sizes.{most_entries}

-- the windows of a record
abbrev pub most_windows : ℕ
most_windows = 1000000

-- the rows of a record before those of its changes: the first row, and those of the objects, of the members and of the limits
abbrev pub most_rows_before_changes : ℕ
most_rows_before_changes = 1 + most_objects + most_groups * most_members + most_entries

-- its rows before those of its windows: those, and the rows of the changes, the reports and the rounds of all updates
abbrev pub most_rows_before_windows : ℕ
most_rows_before_windows = most_rows_before_changes + most_updates * most_changes + most_updates + most_updates
