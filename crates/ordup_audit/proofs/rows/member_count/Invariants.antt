use Rattle.std.proofs.Common.{◌≡◌, ◌*◌, ◌≤◌, length, take, sum_by}
use Rattle.ordup_objects.specs.Sizes.{most_members}
use Rattle.ordup_audit.proofs.rows.member_count.Given as goal

-- the members of the groups so far
abbrev pub invariant-loop-index : goal.invariant-loop-index
invariant-loop-index g l = record {
  so_far : l.count ≡ sum_by (λ g. length g.1) (take l.index l.groups);
  few : l.count ≤ most_members * l.index;
}
