use Rattle.ordup_grammar.proofs.Decimals.{signed_decimal-number_of}
use Rattle.ordup_grammar.proofs.number.numbers_are_decimals.Goals as goal

pub returns : goal.returns
returns c = signed_decimal-number_of
