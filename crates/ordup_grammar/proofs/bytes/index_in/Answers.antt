use Rattle.std.proofs.Common.{sym}
use Rattle.ordup_grammar.proofs.Splits.{index-first_byte, index-no_byte}
use Rattle.ordup_grammar.proofs.bytes.index_in.Goals as goal

pub returns-in-Some : goal.returns-in-Some
returns-in-Some c = sym (index-first_byte c.args.wanted c.args.text.now c.in-Some.index c.in-Some.ensures)

pub returns-in-None : goal.returns-in-None
returns-in-None c = sym (index-no_byte c.args.wanted c.args.text.now c.in-None.ensures)
