use Rattle.ordup_grammar.proofs.PrintedLemmas.{printed_before_mark, printed_without_mark}
use Rattle.ordup_grammar.proofs.bytes.printed_in_block.Goals as goal

pub returns-then-unprinted-eq0 : goal.returns-then-unprinted-eq0
returns-then-unprinted-eq0 c =
    printed_without_mark c.args.bytes.now c.args.index c.requires (λ i. (c.type_inv.bytes i).fits) c.if-unprinted-eq0.true

pub returns : goal.returns
returns c = printed_before_mark c.args.bytes.now c.args.index c.requires (λ i. (c.type_inv.bytes i).fits) c.if-unprinted-eq0.false
