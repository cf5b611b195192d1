use Rattle.ordup_check.proofs.RowLemmas.{refused_row}
use Rattle.ordup_check.proofs.partial_record.PartialRecord.add_next_change.Goals as goal

pub returns-in-Err : goal.returns-in-Err
returns-in-Err c = refused_row c.not_taken.result _ c.in-Err.refusal _ _ _ c.not_taken.ensures c.in-Err.ensures.refused
