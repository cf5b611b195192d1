use Rattle.std.proofs.Common.{arith}
use Rattle.ordup_grammar.proofs.PrintedLemmas.{goes_past_block, stops_in_block}
use Rattle.ordup_grammar.proofs.bytes.printed_prefix.Goals as goal

pub returns-then-printed-lt-BLOCK : goal.returns-then-printed-lt-BLOCK
returns-then-printed-lt-BLOCK c =
    stops_in_block c.args.bytes.now c.loop-index.index c.printed_in_block-printed.result (omega arith) c.loop-index.invariant.1
    c.printed_in_block-printed.ensures c.if-printed-lt-BLOCK.true

pub loop-index-preserved : goal.loop-index-preserved
loop-index-preserved c = (
  omega arith,
  goes_past_block c.args.bytes.now c.loop-index.index c.printed_in_block-printed.result (omega arith) c.loop-index.invariant.1
      c.printed_in_block-printed.ensures (omega arith),
)
