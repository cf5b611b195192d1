-- What the updates weigh by which a site lags, for each of its limits.
use Rattle.std.specs.Prelude.{ℕ, ◌<◌, List, slice_index}
use Rattle.ordup_objects.specs.Serial.{History}
use Rattle.ordup_log.specs.Groups.{GroupList}
use Rattle.ordup_limits.specs.Limits.{Limits}
use Rattle.ordup_limits.specs.Sizes.{most_limits}
use Rattle.ordup_limits.specs.Totals.{AreTotals, AreAllowed}

-- two places of a log, and for each limit what the updates up to the second place weigh and which weight is allowed
pub record LagWeightsAt : Type 0 where
  pub reported : ℕ
  pub extended : ℕ
  pub added : List ℕ
  pub allowed : List ℕ

-- for these limits the weights are those of their places
pub record AreLagWeights (h : History) (groups : GroupList) (limits : Limits) (w : LagWeightsAt) : Type 0 where
  pub added : AreTotals h groups limits w.extended w.added
  pub allowed : AreAllowed h groups limits w.reported w.allowed

-- for some limit the updates weigh more than is allowed
abbrev pub HasPassed : LagWeightsAt → Type 0
HasPassed w = (i : ℕ) × ((i < most_limits) × (slice_index w.allowed i < slice_index w.added i))
