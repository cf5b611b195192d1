-- A ledger in the fields of a `LagLedger`.
use Rattle.std.specs.Prelude.{◌≡◌}
use Rattle.ordup_limits.specs.Ledgers.{LedgerState, IsLedger}
use Rattle.ordup_limits.specs.PassedLimits.{least_count}
use Rattle.ordup_limits.specs.declared.lag_ledger.LagLedger.TheInside.{Inside}

module _ {A : Type 0} where
  abbrev pub ledger_of : Inside A → LedgerState
  ledger_of l = record {
    limits = l.limits;
    reported = l.weights.reported;
    extended = l.weights.extended;
    added = l.weights.added;
    allowed = l.weights.allowed;
    masks = l.masks;
    has_masks = l.has_masks;
  }

  -- what the fields keep: a ledger, with the limit on the count
  pub record KeepsLedger (l : Inside A) : Type 0 where
    pub ledger : IsLedger (ledger_of l)
    pub count : l.count ≡ least_count l.limits
