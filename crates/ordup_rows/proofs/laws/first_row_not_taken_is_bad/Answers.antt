use Rattle.ordup_rows.proofs.Beginnings.{first_row_not_taken_is_bad}
use Rattle.ordup_rows.proofs.laws.first_row_not_taken_is_bad.Goals as goal

pub returns : goal.returns
returns c = first_row_not_taken_is_bad
