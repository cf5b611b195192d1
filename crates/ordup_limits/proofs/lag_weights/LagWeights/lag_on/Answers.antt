use Rattle.std.proofs.Common.{refl}
use Rattle.ordup_limits.proofs.lag_weights.LagWeights.lag_on.Goals as goal

pub returns : goal.returns
returns g c =
    rw (← c.self.view_is, c.saturating_sub.ensures, c.saturating_sub-reported.ensures, c.kept_amount.ensures, c.at.ensures, c.at-2.ensures) refl
