use Rattle.ordup_rows.proofs.SizeLemmas.{written_texts_are_within_the_limit}
use Rattle.ordup_rows.proofs.laws.written_texts_are_within_the_limit.Goals as goal

pub returns : goal.returns
returns c = written_texts_are_within_the_limit
