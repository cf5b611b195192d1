use Rattle.ordup_entries.proofs.EntryLaws.{entry-again}
use Rattle.ordup_entries.proofs.laws.reading_gives_back_what_was_written.Goals as goal

pub returns : goal.returns
returns c = entry-again
