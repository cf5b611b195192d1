-- Totals: for each limit of a site what the updates up to a place weigh on its scope.
use Rattle.std.specs.Prelude.{◌≡◌, ℕ, ◌+◌, ◌-◌, ◌*◌, ◌<◌, ◌≤◌, ◌==◌, if◌then◌else◌, Bool, List, [], ◌∷◌}
use Rattle.std.specs.Prelude.{length, min, slice_index, slice_index_or}
use Rattle.std.specs.Int.{bit_at}
use Rattle.ordup_objects.specs.declared.moved.Moved.{Moved}
use Rattle.ordup_objects.specs.Serial.{History, serial}
use Rattle.ordup_objects.specs.Sizes.{greatest_weight}
use Rattle.ordup_objects.specs.Sums.{sum_from}
use Rattle.ordup_objects.specs.Moves.{moves_of}
use Rattle.ordup_log.specs.Groups.{GroupList}
use Rattle.ordup_log.specs.Spans.{span}
use Rattle.ordup_log.specs.declared.scope.Scope.{Scope}
use Rattle.ordup_log.specs.declared.scope.Scope.TheVariants.{Object, Group, All as Everything, Count}
use Rattle.ordup_limits.specs.declared.limit.Limit.{Limit}
use Rattle.ordup_limits.specs.Limits.{Limits}
use Rattle.ordup_limits.specs.Masks.{has_bit}
use Rattle.ordup_limits.specs.Sizes.{most_limits, greatest_amount}

-- what the updates up to a place weigh on a scope, by their changes: nothing on the count of updates, which the place itself tells
abbrev pub weighed : History → GroupList → Scope → ℕ → ℕ
weighed h groups (Object x) place = span h groups (Object x) 0 place
weighed h groups (Group g) place = span h groups (Group g) 0 place
weighed h groups Everything place = span h groups Everything 0 place
weighed h groups Count place = 0

-- no total is above n
abbrev pub AreAtMost : ℕ → List ℕ → Type 0
AreAtMost n totals = (i : ℕ) → slice_index totals i ≤ n

-- for each limit what the updates up to a place weigh on its scope, and nothing where there is no limit
pub record AreTotals (h : History) (groups : GroupList) (limits : Limits) (place : ℕ) (totals : List ℕ) : Type 0 where
  pub few : AreAtMost (greatest_weight * place) totals
  pub none : (i : ℕ) → length limits ≤ i → slice_index totals i ≡ 0
  pub each : (i : ℕ) (d : Limit) → i < length limits
      → slice_index totals i ≡ weighed h groups (slice_index_or limits i d).scope place

-- the amount of a limit, and no more than the greatest one, which no log passes
abbrev pub kept_amount : Limit → ℕ
kept_amount l = min l.amount greatest_amount

-- for each limit its amount with what the updates up to a place weigh on its scope
pub record AreAllowed (h : History) (groups : GroupList) (limits : Limits) (place : ℕ) (allowed : List ℕ) : Type 0 where
  pub few : AreAtMost (greatest_amount + greatest_weight * place) allowed
  pub each : (i : ℕ) (d : Limit) → i < length limits
      → slice_index allowed i ≡ kept_amount (slice_index_or limits i d) + weighed h groups (slice_index_or limits i d).scope place

-- a weight where it counts, and else nothing
abbrev pub share : Bool → ℕ → ℕ
share counts weight = if counts then weight else 0

-- how far moves move the objects that pass a test
abbrev pub weight_of : (ℕ → Bool) → List Moved → ℕ
weight_of test [] = 0
weight_of test (d ∷ ds) = share (test d.object) d.distance + weight_of test ds

-- the same of the moves of the update after the first j
abbrev pub weight_where : (ℕ → Bool) → History → ℕ → ℕ
weight_where test h j = weight_of test (moves_of (serial h j) (slice_index_or h.sets j []))

-- ---- totals that are raised

-- limit i has this total, and the others have theirs
abbrev pub HaveTotalAt : ℕ → ℕ → List ℕ → List ℕ → Type 0
HaveTotalAt i total old new = (k : ℕ) → slice_index new k ≡ (if k == i then total else slice_index old k)

-- each total that has its bit in a mask is higher by a weight
pub record AreRaisedBy (mask weight : ℕ) (old new : List ℕ) : Type 0 where
  pub each : (i : ℕ) → i < most_limits → slice_index new i ≡ slice_index old i + share (bit_at mask i == 1) weight
  pub others : (i : ℕ) → most_limits ≤ i → slice_index new i ≡ slice_index old i

-- each total is higher by the changes of the updates after place a, up to place b, whose objects have its bit in their masks
pub record AreRaised (h : History) (masks : List ℕ) (a b : ℕ) (old new : List ℕ) : Type 0 where
  pub each : (i : ℕ) → i < most_limits → slice_index new i ≡ slice_index old i + sum_from (weight_where (has_bit masks i) h) a (b - a)
  pub others : (i : ℕ) → most_limits ≤ i → slice_index new i ≡ slice_index old i
