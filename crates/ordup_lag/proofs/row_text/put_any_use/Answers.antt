use Rattle.std.proofs.Common.{ap, arith, get_or, length}
use Rattle.ordup_limits.specs.Limits.{Limits}
use Rattle.ordup_lag.proofs.LagLemmas.{use_none, use_there}
use Rattle.ordup_lag.proofs.row_text.put_any_use.Goals as goal

pub returns-then-index-limits-clause-text : goal.returns-then-index-limits-clause-text
returns-then-index-limits-clause-text g c =
    let limit = c.index-limits-index.result in
    let limits = ap (λ (ls : Limits). length ls) c.limits-limits.ensures in
    use_there _ _ c.args.ledger.now c.args.index c.weight.result (get_or c.limits-limits.result.now c.args.index limit).amount limit
    c.put_use.ensures.text (omega (arith, c.if-index-limits.true, limits))
    (ap (λ (ls : Limits). (get_or ls c.args.index limit).amount) c.limits-limits.ensures) c.weight.ensures

pub returns-else-index-limits-clause-text : goal.returns-else-index-limits-clause-text
returns-else-index-limits-clause-text g c =
    let limits = ap (λ (ls : Limits). length ls) c.limits-limits.ensures in
    use_none _ _ c.args.ledger.now c.args.index c.put.ensures.text (omega (arith, c.if-index-limits.false, limits))
