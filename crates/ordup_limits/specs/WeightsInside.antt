-- Weights in the fields of a `Weights`.
use Rattle.std.specs.Prelude.{◌≡◌, length}
use Rattle.ordup_limits.specs.StoreLedgers.{WeightsAt, most_scopes}
use Rattle.ordup_limits.specs.declared.weights.Weights.TheInside.{Inside}

module _ {A : Type 0} where
  abbrev pub weights_of : Inside A → WeightsAt
  weights_of w = record { place = w.place; totals = w.totals.items }

  -- there is a total for each scope
  abbrev pub HasTotals : Inside A → Type 0
  HasTotals w = length w.totals.items ≡ most_scopes
