use Rattle.ordup_rows.proofs.TextLemmas.{texts_of_a_record_are_not_malformed}
use Rattle.ordup_rows.proofs.laws.texts_of_a_record_are_not_malformed.Goals as goal

pub returns : goal.returns
returns c = texts_of_a_record_are_not_malformed
