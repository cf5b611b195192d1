use Rattle.ordup_rows.proofs.ReadingBack.{reading_is_complete}
use Rattle.ordup_rows.proofs.laws.reading_is_complete.Goals as goal

pub returns : goal.returns
returns c = reading_is_complete
