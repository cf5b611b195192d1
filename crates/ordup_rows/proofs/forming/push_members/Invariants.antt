use Rattle.std.proofs.Common.{◌+◌, drop}
use Rattle.ordup_rows.specs.Rows.{counted, member_row}
use Rattle.ordup_rows.proofs.FormLemmas.{IsUpto}
use Rattle.ordup_rows.proofs.forming.push_members.Given as goal

abbrev pub invariant-loop-i : goal.invariant-loop-i
invariant-loop-i g l =
    IsUpto l.initial.rows l.rows (counted (member_row l.objects l.group) (l.first + l.i) (drop l.i l.members))
    (counted (member_row l.objects l.group) l.first l.members)
