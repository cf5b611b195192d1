-- The ledger of a store in the fields of a `StoreLedger`.
use Rattle.ordup_limits.specs.StoreLedgers.{StoreLedgerState}
use Rattle.ordup_limits.specs.declared.store_ledger.StoreLedger.TheInside.{Inside}

module _ {A : Type 0} where
  abbrev pub store_ledger_of : Inside A → StoreLedgerState
  store_ledger_of l = record { masks = l.masks; added = l.added; sites = l.sites.items; kept = l.kept.items }
