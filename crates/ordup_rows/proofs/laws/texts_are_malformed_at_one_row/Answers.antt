use Rattle.ordup_rows.proofs.TextLemmas.{texts_are_malformed_at_one_row}
use Rattle.ordup_rows.proofs.laws.texts_are_malformed_at_one_row.Goals as goal

pub returns : goal.returns
returns c = texts_are_malformed_at_one_row
