use Rattle.ordup_check.proofs.ColumnLemmas.{columns_came}
use Rattle.ordup_check.proofs.reading.see_row.Goals as goal

pub returns : goal.returns
returns c = columns_came c.args.row.now (rw c.as_slice.ensures at c.see_bytes.ensures)
