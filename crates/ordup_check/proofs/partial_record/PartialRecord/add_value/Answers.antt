use Rattle.ordup_audit.proofs.Common.{rules, to_z-of_z, w64}
use Rattle.ordup_check.proofs.RowLemmas.{refused_row}
use Rattle.ordup_check.proofs.partial_record.PartialRecord.add_value.Goals as goal

pub returns-in-Err : goal.returns-in-Err
returns-in-Err c =
    refused_row c.not_taken.result _ c.in-Err.refusal _ _ _ c.not_taken.ensures
    (rw (to_z-of_z w64 c.args.value (search rules)) at c.in-Err.ensures.refused)
