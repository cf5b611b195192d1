use Rattle.std.proofs.Common.{◌≡◌, take}
use Rattle.ordup_primary.proofs.starting.add_limits.Given as goal

-- the limits of the sites so far
abbrev pub invariant-loop-site : goal.invariant-loop-site
invariant-loop-site g l = l.limits.items ≡ take l.site l.setup.limits
