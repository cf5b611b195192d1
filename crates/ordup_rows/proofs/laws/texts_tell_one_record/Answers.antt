use Rattle.ordup_rows.proofs.TextLemmas.{texts_tell_one_record}
use Rattle.ordup_rows.proofs.laws.texts_tell_one_record.Goals as goal

pub returns : goal.returns
returns c = texts_tell_one_record
