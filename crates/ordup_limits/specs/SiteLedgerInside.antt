-- A site in the fields of a `SiteLedger`.
use Rattle.std.specs.Prelude.{◌≡◌, ℕ, ◌≤◌, length, slice_index}
use Rattle.ordup_limits.specs.StoreLedgers.{SiteLedgerState, most_scopes}
use Rattle.ordup_limits.specs.Sizes.{greatest_amount}
use Rattle.ordup_limits.specs.declared.site_ledger.SiteLedger.TheInside.{Inside}

module _ {A : Type 0} where
  abbrev pub site_of : Inside A → SiteLedgerState
  site_of s = record { reported = s.reported; amounts = s.amounts.items }

  -- there is an amount for each scope
  pub record KeepsAmounts (s : Inside A) : Type 0 where
    pub count : length s.amounts.items ≡ most_scopes
    pub few : (i : ℕ) → slice_index s.amounts.items i ≤ greatest_amount
