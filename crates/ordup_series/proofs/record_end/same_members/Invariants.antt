use Rattle.std.specs.Prelude.{◌≡◌, ◌≤◌, ◌*◌, take}
use Rattle.ordup_audit.specs.Rows.{member_count}
use Rattle.ordup_objects.specs.Sizes.{most_members}
use Rattle.ordup_log.specs.Groups.{GroupList}
use Rattle.ordup_series.proofs.record_end.same_members.Given as goal

-- they are the same so far
abbrev pub invariant-loop-index : goal.invariant-loop-index
invariant-loop-index g l =
    let mine : GroupList = l.fn.mine in
    let others : GroupList = l.fn.others in
    (take l.index mine ≡ take l.index others) × (l.members ≡ member_count (take l.index others))
    × (l.members ≤ l.index * most_members)
