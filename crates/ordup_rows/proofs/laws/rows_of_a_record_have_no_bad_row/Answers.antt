use Rattle.ordup_rows.proofs.BadRows.{rows_of_a_record_have_no_bad_row}
use Rattle.ordup_rows.proofs.laws.rows_of_a_record_have_no_bad_row.Goals as goal

pub returns : goal.returns
returns c = rows_of_a_record_have_no_bad_row
