use Rattle.ordup_series.proofs.SeriesLemmas.{valid_series_are_certified}
use Rattle.ordup_series.proofs.laws.valid_series_are_certified.Goals as goal

pub returns : goal.returns
returns c = valid_series_are_certified
