use Rattle.std.proofs.Common.{refl}
use Rattle.ordup_limits.specs.Entries.{are_one_entry}
use Rattle.ordup_limits.specs.Sizes.{most_entries}
use Rattle.ordup_limits.proofs.PutLemmas.{spare-found, spare-new}
use Rattle.ordup_limits.proofs.entries.has_spare_entry.Goals as goal

pub returns-in-Some : goal.returns-in-Some
returns-in-Some c = spare-found are_one_entry c.args.entries.now c.args.entry.now c.in-Some.field-0 most_entries c.in-Some.ensures c.requires.few

pub returns-in-None : goal.returns-in-None
returns-in-None c = spare-new are_one_entry c.args.entries.now c.args.entry.now _ most_entries c.in-None.ensures refl
