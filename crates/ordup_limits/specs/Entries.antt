-- Limits by place: entries, each of which holds from a place on, and the limits that are in force at a place.
use Rattle.std.specs.Prelude.{◌≡◌, ◌≤◌, ◌<◌, ℕ, ◌==◌, ◌&&◌, if◌then◌else◌, Option, Some, None, Bool, false}
use Rattle.std.specs.Prelude.{List, [], ◌∷◌, length, nat_lt, nat_le, fold, filter, map, slice_index_or, All}
use Rattle.std.specs.List.Sorted.{IsNonDecreasingBy}
use Rattle.std.specs.Option.{option_or}
use Rattle.ordup_objects.specs.declared.refusal.Refusal.{Refusal}
use Rattle.ordup_objects.specs.declared.refusal.Refusal.TheVariants.{OutOfRange, TooMany}
use Rattle.ordup_objects.specs.Repeats.{repeats}
use Rattle.ordup_objects.specs.Serial.{History}
use Rattle.ordup_log.specs.Groups.{GroupList}
use Rattle.ordup_log.specs.Spans.{IsScopeKnown}
use Rattle.ordup_log.specs.declared.scope.Scope.{Scope}
use Rattle.ordup_rounds.specs.Schedules.{IsLimitTest}
use Rattle.ordup_limits.specs.Limits.{Limits, are_on_one_scope, scope_refusal, within}
use Rattle.ordup_limits.specs.Sizes.{most_limits, most_entries, greatest_amount}
use Rattle.ordup_limits.specs.declared.limit.Limit.{Limit}
use Rattle.ordup_limits.specs.declared.limit_entry.LimitEntry.{LimitEntry}

-- the limits of a site as they were declared and changed, in this order
abbrev pub Entries : Type 0
Entries = List LimitEntry

-- a limit of this amount on a scope, from a place on
abbrev pub entry_of : Scope → ℕ → ℕ → LimitEntry
entry_of scope amount place = record { limit = record { scope = scope; amount = amount }; place = place }

-- a list with an element more: in the place of the first that is the same by a test, or else as the last
abbrev pub put : {X : Type 0} → (X → X → Bool) → List X → X → List X
put same [] x = x ∷ []
put same (y ∷ ys) x = if same y x then x ∷ ys else y ∷ put same ys x

-- of each scope the last of these entries, in the order in which the scopes first come
abbrev pub latest : Entries → Limits
latest entries = fold (λ limits e. put are_on_one_scope limits e.limit) [] entries

-- the limits in force at place k: of each scope the last of the entries that hold from k or before
abbrev pub in_force : Entries → ℕ → Limits
in_force entries k = latest (filter (λ e. nat_le e.place k) entries)

-- the limits that are in force at the end of a span are a test of spans, as the law of the fewest rounds asks for it
abbrev pub LimitsInForceAreALimitTest : Type 0
LimitsInForceAreALimitTest =
    (h : History) (groups : GroupList) (entries : Entries) → IsLimitTest (λ a b. within h groups (in_force entries b) a b)

-- the limits in force at a place are on the first of the scopes that have a limit now, in the same order: so a number among them is
-- that of the same scope
abbrev pub LimitsInForceKeepTheirNumbers : Type 0
LimitsInForceKeepTheirNumbers =
    (entries : Entries) (k i : ℕ) (d : Limit) → IsNonDecreasingBy (λ e. e.place) entries → i < length (in_force entries k)
    → (i < length (latest entries)) × ((slice_index_or (in_force entries k) i d).scope ≡ (slice_index_or (latest entries) i d).scope)

-- these limits, all of them in force from place 1
abbrev pub from_start : Limits → Entries
from_start limits = map (λ l. record { limit = l; place = 1 }) limits

-- two entries are of one scope and one place
abbrev pub are_one_entry : LimitEntry → LimitEntry → Bool
are_one_entry e f = are_on_one_scope e.limit f.limit && (e.place == f.place)

-- entries with a change: in the place of the one of its scope and place, or else as the last
abbrev pub changed : Entries → LimitEntry → Entries
changed entries e = put are_one_entry entries e

-- there are at most 64 scopes and 1,088 entries
abbrev pub has_few : Entries → Bool
has_few entries = nat_le (length (latest entries)) most_limits && nat_le (length entries) most_entries

-- why a change is refused, if it is
abbrev pub change_refusal : ℕ → GroupList → Entries → LimitEntry → Option Refusal
change_refusal n groups entries e = option_or (scope_refusal n groups e.limit.scope) (
    if nat_lt greatest_amount e.limit.amount then Some OutOfRange else
    if has_few (changed entries e) then None else Some TooMany)

-- each entry holds from this place or before
abbrev pub HoldFrom : ℕ → Entries → Type 0
HoldFrom k entries = All (λ e. e.place ≤ k) entries

-- What each table keeps: at most 64 scopes and 1,088 entries, in the order of their places, which begin at 1, with amounts from 0
-- to 10^18. No two entries are of one scope and one place.
pub record AreEntries (entries : Entries) : Type 0 where
  pub scopes : length (latest entries) ≤ most_limits
  pub few : length entries ≤ most_entries
  pub amounts : All (λ e. e.limit.amount ≤ greatest_amount) entries
  pub begun : All (λ e. 0 < e.place) entries
  pub rising : IsNonDecreasingBy (λ e. e.place) entries
  pub distinct : repeats are_one_entry entries ≡ false

-- the objects and groups of the entries are there
abbrev pub AreEntriesKnown : ℕ → GroupList → Entries → Type 0
AreEntriesKnown n groups entries = All (λ e. IsScopeKnown n groups e.limit.scope) entries
