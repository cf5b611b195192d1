use Rattle.ordup_entries.proofs.EntryLaws.{one_text}
use Rattle.ordup_entries.proofs.laws.no_two_entries_have_one_text.Goals as goal

pub returns : goal.returns
returns c = one_text
