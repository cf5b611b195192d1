use Rattle.std.proofs.Common.{take}
use Rattle.ordup_objects.specs.States.{after}
use Rattle.ordup_conditions.specs.Conditions.{AreMet}
use Rattle.ordup_conditions.proofs.unmet.first_unmet.Given as goal

-- the conditions so far are met
abbrev pub invariant-loop-index : goal.invariant-loop-index
invariant-loop-index g l = AreMet (after l.set l.values) (take l.index l.conditions)
