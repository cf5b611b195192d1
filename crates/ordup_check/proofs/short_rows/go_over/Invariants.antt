use Rattle.std.specs.Prelude.{◌≡◌, ◌≤◌, ◌++◌, ◌-◌, ℕ, List, drop, length, take}
use Rattle.ordup_check.specs.ShortRows.{ends_at_long_row}
use Rattle.ordup_check.proofs.short_rows.go_over.Given as goal

-- the bytes so far are passed on, and what follows is as it is from their end on
abbrev pub invariant-loop-count : goal.invariant-loop-count
invariant-loop-count l =
    (l.count ≤ length l.bytes)
    × ((more : List ℕ) → ends_at_long_row l.fn.start l.fn.spare (l.bytes ++ more)
    ≡ take l.count l.bytes ++ ends_at_long_row l.state l.left (drop l.count l.bytes ++ more))

abbrev pub decreases-loop-count : goal.decreases-loop-count
decreases-loop-count l = length l.bytes - l.count
