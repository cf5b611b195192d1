use Rattle.std.proofs.Common.{◌≡◌, take}
use Rattle.ordup_primary.proofs.setup.add_capacities.Given as goal

-- the sites so far
abbrev pub invariant-loop-index : goal.invariant-loop-index
invariant-loop-index g l = l.copied ≡ take l.index l.capacities
