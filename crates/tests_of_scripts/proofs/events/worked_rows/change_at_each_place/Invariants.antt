use Rattle.std.proofs.Common.{◌≤◌, ◌<◌, ◌+◌, ℕ, length, slice_index_or}
use Rattle.ordup_limits.specs.declared.limit_entry.LimitEntry.{LimitEntry}
use Rattle.tests_of_scripts.proofs.events.worked_rows.change_at_each_place.Given as goal

-- each entry holds from before the place
abbrev pub invariant-loop-place : goal.invariant-loop-place
invariant-loop-place g l = (k : ℕ) (d : LimitEntry) → k < length l.table → (slice_index_or l.table k d).place + 1 ≤ l.place-counter
