use Rattle.std.proofs.Common.{◌∙◌, arith}
use Rattle.std.proofs.Math.ListN.{length-set}
use Rattle.ordup_lag.proofs.LagLemmas.{uses_next}
use Rattle.ordup_lag.proofs.row_text.push_uses.Goals as goal

pub loop-index-preserved : goal.loop-index-preserved
loop-index-preserved g c = record {
  count = length-set c.loop-index.cells.items c.loop-index.index c.put_any_use.new.cell ∙ c.loop-index.invariant.count;
  text = uses_next _ _ _ c.args.ledger.now c.loop-index.index c.loop-index.invariant.text c.put_any_use.ensures.text;
  spare = omega (arith, c.loop-index.invariant.spare, c.put_any_use.ensures.spare);
}
