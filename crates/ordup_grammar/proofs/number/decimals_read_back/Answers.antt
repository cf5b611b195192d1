use Rattle.ordup_grammar.proofs.Decimals.{number_of-signed_decimal}
use Rattle.ordup_grammar.proofs.number.decimals_read_back.Goals as goal

pub returns : goal.returns
returns c = number_of-signed_decimal
