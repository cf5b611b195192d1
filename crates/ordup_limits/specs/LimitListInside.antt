-- A list of limits in the fields of a `LimitList`.
use Rattle.std.specs.Prelude.{◌≡◌, ◌≤◌, length, take}
use Rattle.ordup_limits.specs.Limits.{Limits}
use Rattle.ordup_limits.specs.Sizes.{most_limits}
use Rattle.ordup_limits.specs.declared.limit_list.LimitList.TheInside.{Inside}

abbrev pub limits_of : Inside → Limits
limits_of l = take l.count l.limits

-- the array is as long as a site may have limits, and no more of them count
pub record HasFewLimits (l : Inside) : Type 0 where
  pub size : length l.limits ≡ most_limits
  pub few : l.count ≤ most_limits
