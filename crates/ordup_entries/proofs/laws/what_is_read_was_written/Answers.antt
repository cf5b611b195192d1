use Rattle.ordup_entries.proofs.EntryLaws.{entry-takes}
use Rattle.ordup_entries.proofs.laws.what_is_read_was_written.Goals as goal

pub returns : goal.returns
returns c = entry-takes
