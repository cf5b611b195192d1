use Rattle.std.proofs.Common.{◌+◌, ◌*◌, ◌<◌, ◌≤◌, drop}
use Rattle.ordup_objects.specs.Sizes.{most_members}
use Rattle.ordup_rows.specs.Rows.{member_rows}
use Rattle.ordup_rows.proofs.FormLemmas.{IsUpto}
use Rattle.ordup_rows.proofs.forming.push_groups.Given as goal

abbrev pub invariant-loop-index : goal.invariant-loop-index
invariant-loop-index g l =
    IsUpto l.initial.rows l.rows (member_rows l.objects l.counter (drop l.index l.groups))
    (member_rows l.objects 1 l.groups)
    × (l.counter ≤ 1 + most_members * l.index) × (0 < l.counter)
