use Rattle.std.proofs.Common.{◌≡◌, take}
use Rattle.ordup_limits.proofs.limit_list.LimitList.copy.Given as goal

-- the limits so far
abbrev pub invariant-loop-limit : goal.invariant-loop-limit
invariant-loop-limit l = l.limits ≡ take l.limit-index l.limit-items
