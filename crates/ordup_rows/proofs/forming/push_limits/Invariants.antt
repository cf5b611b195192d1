use Rattle.std.proofs.Common.{◌+◌, drop}
use Rattle.ordup_rows.specs.Rows.{counted, limit_row}
use Rattle.ordup_rows.proofs.FormLemmas.{IsUpto}
use Rattle.ordup_rows.proofs.forming.push_limits.Given as goal

abbrev pub invariant-loop-i : goal.invariant-loop-i
invariant-loop-i g l =
    IsUpto l.initial.rows l.rows (counted (limit_row l.version l.objects l.groups) (l.i + 1) (drop l.i l.entries))
    (counted (limit_row l.version l.objects l.groups) 1 l.entries)
