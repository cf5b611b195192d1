-- The lag of a site, decision by decision.
use Rattle.std.specs.Prelude.{ℕ, ◌+◌, ◌≤◌, ◌<◌, ◌==◌, ◌&&◌, nat_lt, nat_le, Bool, List, length, map, Option, option_map, All}
use Rattle.std.specs.List.{list_any, position, AllAdjacentBelow}
use Rattle.ordup_objects.specs.Serial.{History}
use Rattle.ordup_log.specs.Groups.{GroupList}
use Rattle.ordup_log.specs.Spans.{span}
use Rattle.ordup_limits.specs.Entries.{in_force}
use Rattle.ordup_limits.specs.Ledgers.{LedgerState}
use Rattle.ordup_limits.specs.declared.limit.Limit.{Limit}
use Rattle.ordup_rounds.specs.declared.window.Window.{Window}
use Rattle.ordup_audit.specs.Records.{RecordState, history_of, report_at}
use Rattle.ordup_lag.specs.declared.offsets.Offsets.{Offsets}

-- at most so many places, and so many windows, come before a record of a series
abbrev pub most_before : ℕ
most_before = 1_000_000_000_000_000_000

-- what a span weighs on the scope of a limit, and the amount of the limit
pub record LimitUse : Type 0 where
  pub weight : ℕ
  pub amount : ℕ

-- how much of a limit the span from a to b uses
abbrev pub use_of : History → GroupList → ℕ → ℕ → Limit → LimitUse
use_of h groups a b limit = record { weight = span h groups limit.scope a b; amount = limit.amount }

-- how much of each of its limits the span of a ledger uses
abbrev pub uses_of : LedgerState → History → GroupList → List LimitUse
uses_of l h groups = map (use_of h groups l.reported l.extended) l.limits

-- for each limit in force at place k: what the updates up to k weigh that the site had not reported at the decision of k
abbrev pub uses_at : RecordState → ℕ → List LimitUse
uses_at r k = map (use_of (history_of r) r.groups (report_at r.reports k) k) (in_force r.limits k)

-- place k is one of a window's: from the one after its `from` to its `to`
abbrev pub has_place : ℕ → Window → Bool
has_place k w = nat_lt w.from k && nat_le k w.to

-- the number of the window that has place k, counted from 1, where one has it
abbrev pub window_of : RecordState → ℕ → Option ℕ
window_of r k = option_map (λ i. i + 1) (position (has_place k) r.windows)

-- what came before a record is no more than machines count
pub record AreFew (before : Offsets) : Type 0 where
  pub places : before.places ≤ most_before
  pub windows : before.windows ≤ most_before

-- a row of the lag: a decided place, what the site had reported at its decision, how much of each limit in force was used,
-- whether the place has a round, and the window that has it
pub record LagRow : Type 0 where
  pub place : ℕ
  pub reported : ℕ
  pub uses : List LimitUse
  pub is_round : Bool
  pub window : Option ℕ

-- the row of place k, after so many places and windows of other records
abbrev pub row_at : Offsets → RecordState → ℕ → LagRow
row_at before r k = record {
  place = before.places + k;
  reported = before.places + report_at r.reports k;
  uses = uses_at r k;
  is_round = list_any (λ p. p == k) r.rounds;
  window = option_map (λ n. before.windows + n) (window_of r k);
}

-- each window ends after it begins, and no later than the next one begins
pub record AreApart (windows : List Window) : Type 0 where
  pub forward : All (λ w. w.from < w.to) windows
  pub apart : AllAdjacentBelow (λ v w. v.to ≤ w.from) windows (length windows)
