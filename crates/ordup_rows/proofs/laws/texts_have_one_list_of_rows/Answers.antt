use Rattle.ordup_rows.proofs.TextLemmas.{texts_have_one_list_of_rows}
use Rattle.ordup_rows.proofs.laws.texts_have_one_list_of_rows.Goals as goal

pub returns : goal.returns
returns c = texts_have_one_list_of_rows
