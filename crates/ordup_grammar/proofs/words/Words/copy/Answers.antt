use Rattle.std.proofs.Common.{arith}
use Rattle.ordup_grammar.proofs.Splits.{few_words}
use Rattle.ordup_grammar.proofs.words.Words.copy.Goals as goal

pub returns-clause-few : goal.returns-clause-few
returns-clause-few c = rw (← c.self.view_is) (omega (arith, few_words c.self.inside.line, c.len-len.ensures.few))
