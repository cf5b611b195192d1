use Rattle.ordup_limits.specs.LagWeightsInside.{lag_weights_of}
use Rattle.ordup_limits.proofs.PassedLemmas.{ArePassed-some}
use Rattle.ordup_limits.proofs.lag_weights.LagWeights.has_passed.Goals as goal

pub returns : goal.returns
returns g c =
    rw (← c.self.view_is)
    (ArePassed-some (lag_weights_of c.self.inside) c.self.inside.passed c.self.invariant.fits c.self.invariant.passed)
