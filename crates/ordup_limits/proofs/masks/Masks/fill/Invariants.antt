use Rattle.std.proofs.Common.{◌≡◌, ◌<◌, ℕ, get_or}
use Rattle.std.specs.Prelude.{◌&&◌, nat_lt}
use Rattle.ordup_objects.specs.Sizes.{most_objects}
use Rattle.ordup_limits.specs.declared.limit.Limit.{Limit}
use Rattle.ordup_limits.specs.Masks.{has_bit, counts_on}
use Rattle.ordup_limits.specs.Sizes.{most_limits}
use Rattle.ordup_limits.proofs.masks.Masks.fill.Given as goal

-- the limits so far are put down
abbrev pub invariant-loop-index : goal.invariant-loop-index
invariant-loop-index g l = (x i : ℕ) (d : Limit) → x < most_objects → i < most_limits
    → has_bit l.self i x ≡ (nat_lt i l.index && counts_on l.groups (get_or l.limits i d).scope x)
