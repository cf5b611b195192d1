use Rattle.ordup_rows.proofs.Beginnings.{incomplete_records_miss_a_row}
use Rattle.ordup_rows.proofs.laws.incomplete_records_miss_a_row.Goals as goal

pub returns : goal.returns
returns c = incomplete_records_miss_a_row
