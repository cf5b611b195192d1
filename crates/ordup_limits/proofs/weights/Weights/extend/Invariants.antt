use Rattle.std.proofs.Common.{◌≤◌, ◌-◌}
use Rattle.ordup_limits.specs.StoreLedgers.{AreWeights}
use Rattle.ordup_limits.proofs.weights.Weights.extend.Given as goal

-- the updates so far are added
abbrev pub invariant-loop-self : goal.invariant-loop-self
invariant-loop-self g l = record { place : l.self.place ≤ l.to; weights : AreWeights l.self l.log l.groups }

abbrev pub decreases-loop-self : goal.decreases-loop-self
decreases-loop-self g l = l.to - l.self.place
