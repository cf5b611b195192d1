use Rattle.ordup_series.proofs.SeriesLemmas.{certified_series_are_valid}
use Rattle.ordup_series.proofs.laws.certified_series_are_valid.Goals as goal

pub returns : goal.returns
returns c = certified_series_are_valid
