use Rattle.ordup_rows.specs.Rows.{rows_of, rows_text}
use Rattle.ordup_rows.proofs.SizeLemmas.{written_texts_are_within_the_limit}
use Rattle.ordup_rows.proofs.TextLemmas.{written_texts_tell_their_record}
use Rattle.ordup_check.proofs.reading.read_record.Goals as goal

pub returns-clause-written : goal.returns-clause-written
returns-clause-written g c r is text =
    c.read_record_within.ensures.told (rows_text (rows_of r)) r text (written_texts_are_within_the_limit r is) (written_texts_tell_their_record r is)
