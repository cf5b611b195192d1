-- The weights of a lag ledger in the fields of a `LagWeights`.
use Rattle.std.specs.Prelude.{◌<◌, ◌^◌}
use Rattle.ordup_limits.specs.LagWeights.{LagWeightsAt}
use Rattle.ordup_limits.specs.PassedLimits.{ArePassed}
use Rattle.ordup_limits.specs.Sizes.{most_limits}
use Rattle.ordup_limits.specs.declared.lag_weights.LagWeights.TheInside.{Inside}

module _ {A : Type 0} where
  abbrev pub lag_weights_of : Inside A → LagWeightsAt
  lag_weights_of w = record { reported = w.reported; extended = w.extended; added = w.added; allowed = w.allowed }

  -- the mask has the limits for which the updates weigh more than is allowed
  pub record KeepsPassed (w : Inside A) : Type 0 where
    pub passed : ArePassed w.passed w.added w.allowed
    -- for the proof: no mask has more bits than there may be limits
    pub fits : w.passed < 2 ^ most_limits
