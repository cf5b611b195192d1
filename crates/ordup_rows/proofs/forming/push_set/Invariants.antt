use Rattle.std.proofs.Common.{◌+◌, drop}
use Rattle.ordup_rows.specs.Rows.{change_row, counted}
use Rattle.ordup_rows.proofs.FormLemmas.{IsUpto}
use Rattle.ordup_rows.proofs.forming.push_set.Given as goal

abbrev pub invariant-loop-i : goal.invariant-loop-i
invariant-loop-i g l =
    IsUpto l.initial.rows l.rows (counted (change_row l.objects l.number) (l.i + 1) (drop l.i l.changes))
    (counted (change_row l.objects l.number) 1 l.changes)
