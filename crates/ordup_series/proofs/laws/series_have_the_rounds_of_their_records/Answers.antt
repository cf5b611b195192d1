use Rattle.ordup_series.proofs.SeriesLemmas.{series_have_the_rounds_of_their_records}
use Rattle.ordup_series.proofs.laws.series_have_the_rounds_of_their_records.Goals as goal

pub returns : goal.returns
returns c = series_have_the_rounds_of_their_records
