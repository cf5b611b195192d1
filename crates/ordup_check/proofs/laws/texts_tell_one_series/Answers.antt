use Rattle.ordup_check.proofs.SeriesTexts.{texts_tell_one_series}
use Rattle.ordup_check.proofs.laws.texts_tell_one_series.Goals as goal

pub returns : goal.returns
returns c = texts_tell_one_series
