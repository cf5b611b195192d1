use Rattle.std.proofs.Common.{◌≡◌, ◌≤◌, ◌<◌, ◌+◌, ◌^◌, ℕ}
use Rattle.std.specs.Prelude.{slice_index, ◌==◌}
use Rattle.std.specs.Int.{bit_at}
use Rattle.ordup_limits.specs.PassedLimits.{ArePassed}
use Rattle.ordup_limits.specs.Sizes.{most_limits}
use Rattle.ordup_limits.specs.Totals.{share}
use Rattle.ordup_limits.proofs.lag_weights.LagWeights.add.Given as goal

-- with the weight where a bit is left, the totals are those with the weight where the mask has one
abbrev pub invariant-loop-rest : goal.invariant-loop-rest
invariant-loop-rest g l = record {
  rest : l.self-inside ≡ record (l.initial.self-inside) { added = l.self-inside.added; passed = l.self-inside.passed };
  totals : (k : ℕ) → k < most_limits
      → slice_index l.self-inside.added k + share (bit_at l.rest k == 1) l.weight
      ≡ slice_index l.initial.self-inside.added k + share (bit_at l.mask k == 1) l.weight;
  others : (k : ℕ) → most_limits ≤ k → slice_index l.self-inside.added k ≡ slice_index l.initial.self-inside.added k;
  passed : ArePassed l.self-inside.passed l.self-inside.added l.self-inside.allowed;
  fits : l.self-inside.passed < 2 ^ most_limits;
}

abbrev pub decreases-loop-rest : goal.decreases-loop-rest
decreases-loop-rest g l = l.rest
