use Rattle.std.proofs.Common.{◌≡◌}
use Rattle.ordup_limits.specs.Totals.{AreRaised}
use Rattle.ordup_limits.proofs.lag_weights.LagWeights.extend.Given as goal

-- the updates so far are added
abbrev pub invariant-loop-place : goal.invariant-loop-place
invariant-loop-place g l = record {
  rest : l.self ≡ record l.fn.self { added = l.self.added };
  added : AreRaised l.log l.masks l.fn.self.extended l.place l.fn.self.added l.self.added;
}
