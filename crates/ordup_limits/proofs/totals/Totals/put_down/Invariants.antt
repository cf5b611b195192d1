use Rattle.std.proofs.Common.{◌≡◌, ◌*◌, ◌<◌, ◌≤◌, ℕ, length}
use Rattle.std.specs.Prelude.{slice_index, slice_index_or}
use Rattle.ordup_objects.specs.Sizes.{greatest_weight}
use Rattle.ordup_limits.specs.Sizes.{most_limits}
use Rattle.ordup_limits.specs.Totals.{weighed}
use Rattle.ordup_limits.specs.declared.limit.Limit.{Limit}
use Rattle.ordup_limits.proofs.totals.Totals.put_down.Given as goal

-- the totals so far are those of the place
abbrev pub invariant-loop-i : goal.invariant-loop-i
invariant-loop-i g l = record {
  count : length l.self-inside.totals.items ≡ most_limits;
  few : (k : ℕ) → k < l.i → slice_index l.self-inside.totals.items k ≤ greatest_weight * l.place;
  none : (k : ℕ) → k < l.i → length l.limits ≤ k → slice_index l.self-inside.totals.items k ≡ 0;
  each : (k : ℕ) (d : Limit) → k < l.i → k < length l.limits
      → slice_index l.self-inside.totals.items k ≡ weighed l.log l.groups (slice_index_or l.limits k d).scope l.place;
}
