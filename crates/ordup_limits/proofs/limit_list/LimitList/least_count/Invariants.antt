use Rattle.std.proofs.Common.{◌≡◌, take}
use Rattle.ordup_limits.specs.PassedLimits.{least_count}
use Rattle.ordup_limits.proofs.limit_list.LimitList.least_count.Given as goal

-- the least amount so far
abbrev pub invariant-loop-limit : goal.invariant-loop-limit
invariant-loop-limit l = l.least ≡ least_count (take l.limit-index l.self)
