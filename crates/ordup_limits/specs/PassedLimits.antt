-- Which limits the span that a site lags passes, by the weights of a ledger.
use Rattle.std.specs.Prelude.{◌≡◌, ℕ, ◌<◌, ◌==◌, List, fold, min, nat_lt, slice_index}
use Rattle.std.specs.Int.{bit_at}
use Rattle.ordup_objects.specs.Sizes.{most_updates}
use Rattle.ordup_log.specs.declared.scope.Scope.{Scope}
use Rattle.ordup_log.specs.declared.scope.Scope.TheVariants.{Count}
use Rattle.ordup_limits.specs.declared.limit.Limit.{Limit}
use Rattle.ordup_limits.specs.Limits.{Limits}
use Rattle.ordup_limits.specs.Sizes.{most_limits}

-- a limit, for a place that has none
abbrev pub no_limit : Limit
no_limit = record { scope = Count; amount = 0 }

-- the lesser of a number and an amount, where it is on the count of updates
abbrev pub least_with : ℕ → Scope → ℕ → ℕ
least_with n Count amount = min n amount
least_with n _ amount = n

-- the least amount of the limits on the count of updates; without one the most updates of a log, which no span passes
abbrev pub least_count : Limits → ℕ
least_count limits = fold (λ n l. least_with n l.scope l.amount) most_updates limits

-- a mask has a bit for just the weights that are above what is allowed
abbrev pub ArePassed : ℕ → List ℕ → List ℕ → Type 0
ArePassed mask added allowed = (i : ℕ) → i < most_limits → (bit_at mask i == 1) ≡ nat_lt (slice_index allowed i) (slice_index added i)
