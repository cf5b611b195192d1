use Rattle.ordup_check.proofs.WrittenSeries.{written_series_are_told}
use Rattle.ordup_check.proofs.laws.written_series_are_told.Goals as goal

pub returns : goal.returns
returns c = written_series_are_told
