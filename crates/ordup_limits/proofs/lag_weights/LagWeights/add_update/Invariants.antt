use Rattle.std.proofs.Common.{◌≡◌, ◌≤◌, ◌<◌, ◌+◌, ℕ, drop}
use Rattle.std.specs.Prelude.{slice_index}
use Rattle.ordup_limits.specs.Masks.{has_bit}
use Rattle.ordup_limits.specs.Sizes.{most_limits}
use Rattle.ordup_limits.specs.Totals.{weight_of, weight_where}
use Rattle.ordup_limits.proofs.lag_weights.LagWeights.add_update.Given as goal

-- with what the moves that are left weigh, the totals have the whole update
abbrev pub invariant-loop-moved : goal.invariant-loop-moved
invariant-loop-moved g l = record {
  rest : l.self ≡ record l.fn.self { added = l.self.added };
  totals : (k : ℕ) → k < most_limits
      → slice_index l.self.added k + weight_of (has_bit l.masks k) (drop l.moved-index l.moves)
      ≡ slice_index l.fn.self.added k + weight_where (has_bit l.masks k) l.log l.place;
  others : (k : ℕ) → most_limits ≤ k → slice_index l.self.added k ≡ slice_index l.fn.self.added k;
}
