use Rattle.ordup_entries.proofs.EntryLaws.{is_found, is_only}
use Rattle.ordup_entries.proofs.WrongLineLaws.{is_told}
use Rattle.ordup_entries.proofs.reading.read_entry.Goals as goal

pub returns-clause-found : goal.returns-clause-found
returns-clause-found g c = is_found c.args.text.now c.read.result c.read.ensures

pub returns-clause-only : goal.returns-clause-only
returns-clause-only g c = is_only c.args.text.now c.read.result c.read.ensures

pub returns-clause-told : goal.returns-clause-told
returns-clause-told g c = is_told c.args.text.now c.read.result c.read.ensures
