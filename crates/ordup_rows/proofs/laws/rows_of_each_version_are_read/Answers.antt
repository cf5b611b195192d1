use Rattle.ordup_rows.proofs.ReadingBack.{rows_of_each_version_are_read}
use Rattle.ordup_rows.proofs.laws.rows_of_each_version_are_read.Goals as goal

pub returns : goal.returns
returns c = rows_of_each_version_are_read
