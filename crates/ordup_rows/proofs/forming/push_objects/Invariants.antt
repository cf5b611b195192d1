use Rattle.std.proofs.Common.{◌+◌, drop}
use Rattle.ordup_rows.specs.Rows.{counted, object_row}
use Rattle.ordup_rows.proofs.FormLemmas.{IsUpto}
use Rattle.ordup_rows.proofs.forming.push_objects.Given as goal

abbrev pub invariant-loop-index : goal.invariant-loop-index
invariant-loop-index g l =
    IsUpto l.initial.rows l.rows (counted object_row (l.index + 1) (drop l.index l.objects)) (counted object_row 1 l.objects)
