use Rattle.std.proofs.Common.{◌≡◌, ◌<◌, ℕ, false}
use Rattle.std.specs.Prelude.{◌==◌, nat_lt, slice_index}
use Rattle.std.specs.Int.{bit_at}
use Rattle.ordup_limits.specs.Sizes.{most_limits}
use Rattle.ordup_limits.proofs.lag_weights.passed_among.Given as goal

-- the bits but for those that are left
abbrev pub invariant-loop-rest : goal.invariant-loop-rest
invariant-loop-rest g l = (i : ℕ) → i < most_limits → (bit_at l.rest i == 1) ≡ false
    → (bit_at l.passed i == 1) ≡ nat_lt (slice_index l.allowed i) (slice_index l.added i)

abbrev pub decreases-loop-rest : goal.decreases-loop-rest
decreases-loop-rest g l = l.rest
