use Rattle.std.proofs.Common.{◌≡◌}
use Rattle.ordup_objects.specs.Serial.{serial}
use Rattle.ordup_holds.proofs.agreement.replay.Given as goal

-- the values after the updates so far
abbrev pub invariant-loop-number : goal.invariant-loop-number
invariant-loop-number l = l.values ≡ serial l.log l.number
