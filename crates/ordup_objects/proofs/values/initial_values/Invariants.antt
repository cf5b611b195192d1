use Rattle.std.proofs.Common.{◌≡◌, take}
use Rattle.ordup_objects.specs.Tables.{initial_state}
use Rattle.ordup_objects.proofs.values.initial_values.Given as goal

-- the values so far
abbrev pub invariant-loop-index : goal.invariant-loop-index
invariant-loop-index g l = l.values.items ≡ take l.index (initial_state l.objects)
