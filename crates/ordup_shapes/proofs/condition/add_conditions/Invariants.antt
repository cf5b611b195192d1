use Rattle.std.proofs.Common.{◌≡◌, map, take}
use Rattle.ordup_shapes.specs.Conditions.{condition_of}
use Rattle.ordup_shapes.proofs.condition.add_conditions.Given as goal

abbrev pub invariant-loop-index : goal.invariant-loop-index
invariant-loop-index l = l.conditions.items ≡ map condition_of (take l.index l.raws)
