use Rattle.std.proofs.Common.{arith}
use Rattle.ordup_grammar.proofs.PositionLemmas.{before_found, none_found}
use Rattle.ordup_grammar.proofs.bytes.before_in_block.Goals as goal

pub returns-then-found-eq0 : goal.returns-then-found-eq0
returns-then-found-eq0 c = none_found c.args.wanted c.args.text.now 0 16 c.requires (omega arith) c.if-found-eq0.true

pub returns : goal.returns
returns c = before_found c.args.wanted c.args.text.now 0 16 c.requires (omega arith) c.if-found-eq0.false
