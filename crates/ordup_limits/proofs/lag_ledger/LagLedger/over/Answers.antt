use Rattle.std.proofs.Common.{◌∙◌}
use Rattle.ordup_limits.specs.LagLedgerInside.{ledger_of}
use Rattle.ordup_limits.proofs.PassedLemmas.{within-passed}
use Rattle.ordup_limits.proofs.lag_ledger.LagLedger.over.Goals as goal

pub returns-then-has_passed : goal.returns-then-has_passed
returns-then-has_passed g c = λ h groups stands.
    rw (← c.self.view_is) (c.if-has_passed.true ∙ rw c.if-has_passed.true at
    (within-passed (ledger_of c.self.inside) c.has_passed.result c.self.inside.count c.self.invariant.ledger
    c.self.invariant.count c.has_passed.ensures h groups (rw (← c.self.view_is) at stands)))

pub returns-else-has_passed : goal.returns-else-has_passed
returns-else-has_passed g c = λ h groups stands.
    rw (← c.self.view_is, c.lag.ensures) (rw c.if-has_passed.false at
    (within-passed (ledger_of c.self.inside) c.has_passed.result c.self.inside.count c.self.invariant.ledger
    c.self.invariant.count c.has_passed.ensures h groups (rw (← c.self.view_is) at stands)))
