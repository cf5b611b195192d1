use Rattle.ordup_rows.proofs.Beginnings.{taken_rows_begin_a_record}
use Rattle.ordup_rows.proofs.laws.taken_rows_begin_a_record.Goals as goal

pub returns : goal.returns
returns c = taken_rows_begin_a_record
