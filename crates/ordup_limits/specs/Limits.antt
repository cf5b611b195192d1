-- Limits, and which of them a span passes.
use Rattle.std.specs.Prelude.{◌≡◌, ◌≤◌, ℕ, ◌==◌, not, if◌then◌else◌, Option, Some, None, Bool, true, false, List}
use Rattle.std.specs.Prelude.{length, nat_lt, nat_le, All}
use Rattle.std.specs.List.{list_all, list_any, position}
use Rattle.std.specs.Option.{option_or}
use Rattle.ordup_objects.specs.declared.refusal.Refusal.{Refusal}
use Rattle.ordup_objects.specs.declared.refusal.Refusal.TheVariants.{UnknownObject, UnknownGroup, OutOfRange, TooMany, Repeated}
use Rattle.ordup_objects.specs.declared.change.Change.{Change}
use Rattle.ordup_objects.specs.Serial.{History, with_more}
use Rattle.ordup_log.specs.Groups.{GroupList}
use Rattle.ordup_log.specs.Spans.{span, IsScopeKnown}
use Rattle.ordup_limits.specs.Sizes.{most_limits, greatest_amount}
use Rattle.ordup_limits.specs.declared.limit.Limit.{Limit}
use Rattle.ordup_log.specs.declared.scope.Scope.{Scope}
use Rattle.ordup_log.specs.declared.scope.Scope.TheVariants.{Object, Group, All as Everything, Count}

-- limits, each on a scope of its own
abbrev pub Limits : Type 0
Limits = List Limit

-- a span keeps a limit where it weighs no more than the amount
abbrev pub keeps_limit : History → GroupList → ℕ → ℕ → Limit → Bool
keeps_limit h groups a b limit = nat_le (span h groups limit.scope a b) limit.amount

-- the span from a to b passes no limit
abbrev pub within : History → GroupList → Limits → ℕ → ℕ → Bool
within h groups limits a b = list_all (keeps_limit h groups a b) limits

-- updates that are added later leave it as it was whether a span passes a limit
abbrev pub LongerHistoriesKeepLimits : Type 0
LongerHistoriesKeepLimits =
    (h : History) (more : List (List Change)) (groups : GroupList) (limits : Limits) (a b : ℕ) → b ≤ length h.sets →
    within (with_more h more) groups limits a b ≡ within h groups limits a b

-- A span that begins later and ends at the same place keeps the limits that the longer one keeps. Of spans that end elsewhere
-- nothing is said.
abbrev pub LaterSpansKeepLimits : Type 0
LaterSpansKeepLimits =
    (h : History) (groups : GroupList) (limits : Limits) (a b c : ℕ) → a ≤ b →
    within h groups limits a c ≡ true → within h groups limits b c ≡ true

-- an empty span keeps all limits
abbrev pub EmptySpansKeepLimits : Type 0
EmptySpansKeepLimits = (h : History) (groups : GroupList) (limits : Limits) (a b : ℕ) → b ≤ a → within h groups limits a b ≡ true

-- the index of the first limit that the span from a to b passes
abbrev pub first_passed : History → GroupList → Limits → ℕ → ℕ → Option ℕ
first_passed h groups limits a b = position (λ limit. not (keeps_limit h groups a b limit)) limits

-- why a scope over n objects and these groups is refused, if it is
abbrev pub scope_refusal : ℕ → GroupList → Scope → Option Refusal
scope_refusal n groups (Object x) = if nat_lt x n then None else Some UnknownObject
scope_refusal n groups (Group g) = if nat_lt g (length groups) then None else Some UnknownGroup
scope_refusal n groups Everything = None
scope_refusal n groups Count = None

-- two scopes are one
abbrev pub is_same_scope : Scope → Scope → Bool
is_same_scope (Object x) (Object y) = x == y
is_same_scope (Group g) (Group h) = g == h
is_same_scope Everything Everything = true
is_same_scope Count Count = true
is_same_scope _ _ = false

-- why an amount on a scope is refused beside these limits, if it is
abbrev pub amount_refusal : Limits → Scope → ℕ → Option Refusal
amount_refusal limits scope amount =
    if nat_lt greatest_amount amount then Some OutOfRange else
    if length limits == most_limits then Some TooMany else
    if list_any (λ limit. is_same_scope limit.scope scope) limits then Some Repeated else None

-- why a limit is refused beside these, if it is
abbrev pub limit_refusal : ℕ → GroupList → Limits → Scope → ℕ → Option Refusal
limit_refusal n groups limits scope amount = option_or (scope_refusal n groups scope) (amount_refusal limits scope amount)

-- two limits are on one scope
abbrev pub are_on_one_scope : Limit → Limit → Bool
are_on_one_scope l m = is_same_scope l.scope m.scope

-- the objects and groups of the limits are there
abbrev pub AreScopesKnown : ℕ → GroupList → Limits → Type 0
AreScopesKnown n groups limits = All (λ limit. IsScopeKnown n groups limit.scope) limits
