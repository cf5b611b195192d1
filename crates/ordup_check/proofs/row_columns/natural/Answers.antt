use Rattle.std.proofs.Common.{sym, rules}
use Rattle.ordup_check.proofs.ColumnLemmas.{no_natural}
use Rattle.ordup_check.proofs.row_columns.natural.Goals as goal

pub returns-then-number : goal.returns-then-number
returns-then-number c = sym (no_natural c.args.column.now c.in_ok-parse.field-0 (search rules) (search rules))
