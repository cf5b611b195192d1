use Rattle.ordup_record.proofs.SuccessiveLemmas.{successive_records_are_next}
use Rattle.ordup_record.proofs.laws.successive_records_are_next.Goals as goal

pub returns : goal.returns
returns c = successive_records_are_next
