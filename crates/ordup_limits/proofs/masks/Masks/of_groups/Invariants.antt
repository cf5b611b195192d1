use Rattle.std.proofs.Common.{◌≡◌, ◌<◌, ℕ, length, get_or}
use Rattle.std.specs.Prelude.{◌&&◌, nat_lt}
use Rattle.ordup_objects.specs.Sizes.{most_objects}
use Rattle.ordup_limits.specs.declared.limit.Limit.{Limit}
use Rattle.ordup_limits.specs.Masks.{group_limits, has_bit, counts_on}
use Rattle.ordup_limits.specs.Sizes.{most_limits}
use Rattle.ordup_limits.proofs.masks.Masks.of_groups.Given as goal

-- the groups so far are put down
abbrev pub invariant-loop-index : goal.invariant-loop-index
invariant-loop-index g l = (x i : ℕ) (d : Limit) → x < most_objects → i < most_limits
    → has_bit l.masks i x ≡ (nat_lt i l.index && counts_on l.groups (get_or (group_limits (length l.groups)) i d).scope x)
