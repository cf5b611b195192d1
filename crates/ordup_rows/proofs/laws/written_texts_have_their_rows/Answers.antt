use Rattle.ordup_rows.proofs.TextLemmas.{written_texts_have_their_rows}
use Rattle.ordup_rows.proofs.laws.written_texts_have_their_rows.Goals as goal

pub returns : goal.returns
returns c = written_texts_have_their_rows
