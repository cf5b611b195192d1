use Rattle.std.proofs.Common.{◌≡◌}
use Rattle.ordup_objects.specs.Serial.{prefix_of}
use Rattle.ordup_log.proofs.log.Log.copy_updates.Given as goal

-- the updates so far
abbrev pub invariant-loop-index : goal.invariant-loop-index
invariant-loop-index g l = l.log ≡ prefix_of l.self l.index
