use Rattle.std.proofs.Common.{◌≡◌, ◌<◌, ◌≤◌, ◌+◌, ℕ, length}
use Rattle.std.specs.Prelude.{slice_index, slice_index_or}
use Rattle.ordup_limits.specs.Sizes.{most_limits}
use Rattle.ordup_limits.specs.Totals.{kept_amount}
use Rattle.ordup_limits.specs.declared.limit.Limit.{Limit}
use Rattle.ordup_limits.proofs.totals.Totals.add_amounts.Given as goal

-- the totals so far have their amounts, and the others are as they were
abbrev pub invariant-loop-index : goal.invariant-loop-index
invariant-loop-index g l = record {
  count : length l.self-inside.totals.items ≡ most_limits;
  raised : (k : ℕ) (d : Limit) → k < l.index
      → slice_index l.self-inside.totals.items k
      ≡ slice_index l.initial.self-inside.totals.items k + kept_amount (slice_index_or l.limits k d);
  rest : (k : ℕ) → l.index ≤ k → slice_index l.self-inside.totals.items k ≡ slice_index l.initial.self-inside.totals.items k;
}
