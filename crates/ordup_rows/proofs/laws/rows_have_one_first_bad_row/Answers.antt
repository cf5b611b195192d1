use Rattle.ordup_rows.proofs.BadRows.{rows_have_one_first_bad_row}
use Rattle.ordup_rows.proofs.laws.rows_have_one_first_bad_row.Goals as goal

pub returns : goal.returns
returns c = rows_have_one_first_bad_row
