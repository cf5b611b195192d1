-- On the count a span weighs as many updates as it has.
-- On any other scope it weighs what was added, less what is allowed beyond the amount.
use Rattle.std.proofs.Common.{arith, ◌∙◌, ap, get_or}
use Rattle.ordup_limits.specs.LagLedgerInside.{ledger_of}
use Rattle.ordup_limits.specs.Limits.{Limits}
use Rattle.ordup_limits.proofs.PassedLemmas.{weight-count, weight-kept}
use Rattle.ordup_limits.proofs.lag_ledger.LagLedger.weight.Goals as goal

pub lag_on-requires : goal.lag_on-requires
lag_on-requires g c = omega (arith, rw (← c.self.view_is) at c.requires, c.self.invariant.ledger.few)

pub returns-in-Count : goal.returns-in-Count
returns-in-Count g c = λ h groups d stands.
    (let limit = c.index-as_slice-index.result in
    rw (← c.self.view_is) (weight-count (ledger_of c.self.inside) c.args.index limit c.lag.result
    (rw (← c.self.view_is) at c.requires)
    (c.index-as_slice-index.is ∙ ap (λ (limits : Limits). get_or limits c.args.index limit) c.as_slice.ensures.limits) c.in-Count.is
    c.lag.ensures h groups d (rw (← c.self.view_is) at stands)))

pub returns-in-Object : goal.returns-in-Object
returns-in-Object g c = λ h groups d stands.
    (let limit = c.index-as_slice-index.result in
    rw (← c.self.view_is, c.lag_on.ensures)
    (weight-kept (ledger_of c.self.inside) c.args.index limit (rw (← c.self.view_is) at c.requires)
    (c.index-as_slice-index.is ∙ ap (λ (limits : Limits). get_or limits c.args.index limit) c.as_slice.ensures.limits)
    c.in-Object.is h groups d (rw (← c.self.view_is) at stands)))
