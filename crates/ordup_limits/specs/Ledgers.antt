-- Ledgers: what the updates weigh by which a site lags.
use Rattle.std.specs.Prelude.{◌≡◌, ℕ, ◌≤◌, Bool, true, false, List, length, slice_index}
use Rattle.ordup_objects.specs.declared.change.Change.{Change}
use Rattle.ordup_objects.specs.Serial.{History, with_more}
use Rattle.ordup_objects.specs.Sizes.{most_objects, most_updates}
use Rattle.ordup_log.specs.Groups.{GroupList}
use Rattle.ordup_limits.specs.Limits.{Limits, AreScopesKnown}
use Rattle.ordup_limits.specs.Masks.{AreMasks}
use Rattle.ordup_limits.specs.Sizes.{most_limits}
use Rattle.ordup_limits.specs.Totals.{AreTotals, AreAllowed}

-- the last limit of a site on each scope, two places of a log, for each limit what the updates up to the second place weigh and
-- which weight is allowed, and for each object the mask of the limits that its changes count on, once a call has seen the groups
pub record LedgerState : Type 0 where
  pub limits : Limits
  pub reported : ℕ
  pub extended : ℕ
  pub added : List ℕ
  pub allowed : List ℕ
  pub masks : List ℕ
  pub has_masks : Bool

-- what each ledger keeps
pub record IsLedger (l : LedgerState) : Type 0 where
  pub few : length l.limits ≤ most_limits
  pub last : l.extended ≤ most_updates
  pub empty : l.has_masks ≡ false → (x : ℕ) → slice_index l.masks x ≡ 0

-- a ledger is of this history and these groups: both of its places are there, and its weights are those of its places
pub record StandsFor (l : LedgerState) (h : History) (groups : GroupList) : Type 0 where
  pub objects : length h.start ≤ most_objects
  pub known : AreScopesKnown (length h.start) groups l.limits
  pub reported : l.reported ≤ length h.sets
  pub extended : l.extended ≤ length h.sets
  pub added : AreTotals h groups l.limits l.extended l.added
  pub allowed : AreAllowed h groups l.limits l.reported l.allowed
  pub masks : l.has_masks ≡ true → AreMasks groups l.limits l.masks

-- a ledger of these limits is at the span from a to b
pub record StandsAt (h : History) (groups : GroupList) (limits : Limits) (a b : ℕ) (l : LedgerState) : Type 0 where
  pub same : l.limits ≡ limits
  pub from : l.reported ≡ a
  pub to : l.extended ≡ b
  pub stands : StandsFor l h groups

-- a ledger of a history is one of each longer history
abbrev pub LongerHistoriesKeepLedgers : Type 0
LongerHistoriesKeepLedgers =
    (l : LedgerState) (h : History) (groups : GroupList) (more : List (List Change)) → StandsFor l h groups
    → StandsFor l (with_more h more) groups
