use Rattle.std.proofs.Common.{rules}
use Rattle.ordup_grammar.proofs.ChangeParts.{position-number}
use Rattle.ordup_grammar.proofs.change_words.Operation.parse.Goals as goal

pub returns-in_ok-number-in-WithNumber : goal.returns-in_ok-number-in-WithNumber
returns-in_ok-number-in-WithNumber c = search (rules, position-number)
