use Rattle.ordup_query.proofs.ImportLemmas.{charge-import_of}
use Rattle.ordup_query.proofs.laws.charges_are_imports.Goals as goal

pub returns : goal.returns
returns c = charge-import_of
