use Rattle.ordup_check.proofs.ColumnLemmas.{all_came}
use Rattle.ordup_check.proofs.reading.see_bytes.Goals as goal

pub returns : goal.returns
returns c = all_came c.args.bytes.now (λ i. (c.type_inv.bytes i).fits)
