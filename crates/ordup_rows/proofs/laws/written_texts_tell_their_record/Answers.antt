use Rattle.ordup_rows.proofs.TextLemmas.{written_texts_tell_their_record}
use Rattle.ordup_rows.proofs.laws.written_texts_tell_their_record.Goals as goal

pub returns : goal.returns
returns c = written_texts_tell_their_record
