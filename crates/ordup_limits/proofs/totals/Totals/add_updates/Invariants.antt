use Rattle.ordup_limits.specs.Totals.{AreRaised}
use Rattle.ordup_limits.proofs.totals.Totals.add_updates.Given as goal

-- the updates so far are added
abbrev pub invariant-loop-place : goal.invariant-loop-place
invariant-loop-place g l = AreRaised l.log l.masks l.from l.place l.fn.self l.self
