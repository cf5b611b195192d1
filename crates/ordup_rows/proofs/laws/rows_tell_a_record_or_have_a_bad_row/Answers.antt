use Rattle.ordup_rows.proofs.BadRows.{rows_tell_a_record_or_have_a_bad_row}
use Rattle.ordup_rows.proofs.laws.rows_tell_a_record_or_have_a_bad_row.Goals as goal

pub returns : goal.returns
returns c = rows_tell_a_record_or_have_a_bad_row
