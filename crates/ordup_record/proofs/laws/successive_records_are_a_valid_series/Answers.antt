use Rattle.ordup_record.proofs.SuccessiveLemmas.{successive_records_are_a_valid_series}
use Rattle.ordup_record.proofs.laws.successive_records_are_a_valid_series.Goals as goal

pub returns : goal.returns
returns c = successive_records_are_a_valid_series
