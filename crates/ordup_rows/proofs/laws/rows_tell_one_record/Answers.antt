use Rattle.ordup_rows.proofs.ReadingBack.{rows_tell_one_record}
use Rattle.ordup_rows.proofs.laws.rows_tell_one_record.Goals as goal

pub returns : goal.returns
returns c = rows_tell_one_record
