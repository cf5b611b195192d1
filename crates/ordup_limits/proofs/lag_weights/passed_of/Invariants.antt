use Rattle.std.proofs.Common.{◌≡◌, ◌<◌, ℕ}
use Rattle.std.specs.Prelude.{◌==◌, nat_lt, slice_index}
use Rattle.std.specs.Int.{bit_at}
use Rattle.ordup_limits.proofs.lag_weights.passed_of.Given as goal

-- the bits so far
abbrev pub invariant-loop-index : goal.invariant-loop-index
invariant-loop-index g l = (i : ℕ) → i < l.index → (bit_at l.passed i == 1) ≡ nat_lt (slice_index l.allowed i) (slice_index l.added i)
