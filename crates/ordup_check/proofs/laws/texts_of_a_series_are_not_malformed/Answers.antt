use Rattle.ordup_check.proofs.SeriesTexts.{texts_of_a_series_are_not_malformed}
use Rattle.ordup_check.proofs.laws.texts_of_a_series_are_not_malformed.Goals as goal

pub returns : goal.returns
returns c = texts_of_a_series_are_not_malformed
