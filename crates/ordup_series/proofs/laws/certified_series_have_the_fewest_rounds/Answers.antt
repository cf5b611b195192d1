use Rattle.ordup_series.proofs.SeriesLemmas.{certified_series_have_the_fewest_rounds}
use Rattle.ordup_series.proofs.laws.certified_series_have_the_fewest_rounds.Goals as goal

pub returns : goal.returns
returns c = certified_series_have_the_fewest_rounds
