-- Limits and spans.
use Rattle.std.proofs.Common.{◌≡◌, ℕ, zero, suc, take, get_or, ◌-◌, ◌+◌, ◌<◌, ◌≤◌, true, false, not, [], ◌∷◌, length, Some, None}
use Rattle.std.proofs.Common.{arith, refl, sym, ◌∙◌}
use Rattle.std.specs.Prelude.{nat_lt, nat_le, IsTrue, All}
use Rattle.std.specs.List.{position_or_len}
use Rattle.std.proofs.lemmas.Bool.{lt-ltb, le-leb, leb-true, and_parts, le-ltb, false≢true}
use Rattle.std.proofs.lemmas.List.Folds.{list_all_at, list_all_more}
use Rattle.ordup_objects.specs.Serial.{History}
use Rattle.ordup_log.specs.Groups.{GroupList, IsGroup}
use Rattle.ordup_log.specs.Spans.{span, IsScopeKnown}
use Rattle.ordup_log.specs.declared.scope.Scope.{Scope}
use Rattle.ordup_log.specs.declared.scope.Scope.TheVariants.{Object, Group, All as Everything, Count}
use Rattle.ordup_log.proofs.MostLemmas.{span-object-most, span-group-most}
use Rattle.ordup_log.proofs.SpanLemmas.{span-inner, span-longer, span-count}
use Rattle.ordup_limits.specs.declared.limit.Limit.{Limit}
use Rattle.ordup_limits.specs.Limits.{Limits, keeps_limit, within, first_passed}
use Rattle.ordup_limits.specs.Limits.{LongerHistoriesKeepLimits, LaterSpansKeepLimits, EmptySpansKeepLimits}

-- an empty span weighs nothing, so it keeps each limit
pub within-empty : EmptySpansKeepLimits
within-empty h groups [] a b le = refl
within-empty h groups (limit ∷ limits) a b le =
    let none : b - a ≡ 0 = omega arith in
    let rest : within h groups limits a b ≡ true = within-empty h groups limits a b le in
    rw (none, le-leb 0 limit.amount (omega arith), rest) refl

none_passed : (h : History) (groups : GroupList) (limits : Limits) (a b : ℕ) → within h groups limits a b ≡ true
    → length limits ≤ position_or_len (λ limit. not (keeps_limit h groups a b limit)) limits
none_passed h groups [] a b is = omega arith
none_passed h groups (limit ∷ limits) a b is =
    let both : keeps_limit h groups a b limit ≡ true × within h groups limits a b ≡ true = and_parts _ _ is in
    rw both.0 (omega (arith, none_passed h groups limits a b both.1))

-- where a span keeps each limit, it passes none first
pub first_passed-within : (h : History) (groups : GroupList) (limits : Limits) (a b : ℕ) → within h groups limits a b ≡ true
    → None ≡ first_passed h groups limits a b
first_passed-within h groups limits a b is =
    rw (le-ltb (position_or_len (λ limit. not (keeps_limit h groups a b limit)) limits) (length limits) (none_passed h groups limits a b is))
    refl

-- the first limit that is not kept, after such that are
passed_at : (h : History) (groups : GroupList) (limits : Limits) (a b i : ℕ) (d : Limit) → i < length limits
    → within h groups (take i limits) a b ≡ true → keeps_limit h groups a b (get_or limits i d) ≡ false
    → position_or_len (λ limit. not (keeps_limit h groups a b limit)) limits ≡ i
passed_at h groups [] a b i d lt before over = absurd (omega arith)
passed_at h groups (limit ∷ limits) a b zero d lt before over = rw over refl
passed_at h groups (limit ∷ limits) a b (suc i) d lt before over =
    let both : keeps_limit h groups a b limit ≡ true × within h groups (take i limits) a b ≡ true = and_parts _ _ before in
    rw both.0 (omega (arith, passed_at h groups limits a b i d (omega arith) both.1 over))

-- it is the first that the span passes
pub first_passed-at : (h : History) (groups : GroupList) (limits : Limits) (a b i : ℕ) (d : Limit) → i < length limits
    → within h groups (take i limits) a b ≡ true → keeps_limit h groups a b (get_or limits i d) ≡ false
    → Some i ≡ first_passed h groups limits a b
first_passed-at h groups limits a b i d lt before over =
    let at = passed_at h groups limits a b i d lt before over in
    let here : nat_lt (position_or_len (λ limit. not (keeps_limit h groups a b limit)) limits) (length limits) ≡ true =
    rw at (lt-ltb i (length limits) lt) in
    rw (here, at) refl

-- so the span does not keep all
pub passed-not_within : (h : History) (groups : GroupList) (limits : Limits) (a b i : ℕ) (d : Limit) → i < length limits
    → keeps_limit h groups a b (get_or limits i d) ≡ false
    → (true ≡ false → IsTrue (within h groups limits a b)) × (IsTrue (within h groups limits a b) → true ≡ false)
passed-not_within h groups limits a b i d lt over =
    let not_all : within h groups limits a b ≡ false = list_all_at (keeps_limit h groups a b) limits i d lt over in
    (λ e. absurd (false≢true (sym e)), λ is. sym is ∙ not_all)

-- one limit more that is kept
pub within-more : (h : History) (groups : GroupList) (limits : Limits) (a b i : ℕ) (d : Limit) → i < length limits
    → within h groups (take i limits) a b ≡ true → keeps_limit h groups a b (get_or limits i d) ≡ true
    → within h groups (take (i + 1) limits) a b ≡ true
within-more h groups limits a b i d lt before here = rw (list_all_more (keeps_limit h groups a b) limits i d lt, before, here) refl

-- the limits that a later span passes, the longer one passes too
pub within-later : LaterSpansKeepLimits
within-later h groups [] a b c later is = refl
within-later h groups (limit ∷ limits) a b c later is =
    let both : keeps_limit h groups a c limit ≡ true × within h groups limits a c ≡ true = and_parts _ _ is in
    let most : span h groups limit.scope a c ≤ limit.amount = leb-true (span h groups limit.scope a c) limit.amount both.0 in
    let first : keeps_limit h groups b c limit ≡ true =
    le-leb (span h groups limit.scope b c) limit.amount
    (omega (arith, span-inner h groups limit.scope a b c c later (omega arith), most)) in
    rw (first, within-later h groups limits a b c later both.1) refl

-- updates that are added later leave it as it was
pub within-longer : LongerHistoriesKeepLimits
within-longer h more groups [] a b le = refl
within-longer h more groups (limit ∷ limits) a b le =
    rw (span-longer h more groups limit.scope a b le, within-longer h more groups limits a b le) refl

-- a limit on the count of updates
pub keeps-count : (h : History) (groups : GroupList) (a b : ℕ) (limit : Limit) → limit.scope ≡ Count
    → nat_le (b - a) limit.amount ≡ keeps_limit h groups a b limit
keeps-count h groups a b limit count = rw (count, span-count h groups a b) refl

-- a limit of no less than all objects weigh is kept
kept_by_all : (h : History) (groups : GroupList) (s : Scope) (a b amount : ℕ) → All (λ g. IsGroup g.1) groups
    → IsScopeKnown (length h.start) groups s → a ≤ b → b ≤ length h.sets
    → span h groups Everything a b ≤ amount → (s ≡ Count → ⊥) → span h groups s a b ≤ amount
kept_by_all h groups (Object x) a b amount are known forward last all other = omega (arith, span-object-most h groups x a b known)
kept_by_all h groups (Group g) a b amount are known forward last all other =
    omega (arith, span-group-most h groups g a b (are g ([], []) known).distinct forward last)
kept_by_all h groups Everything a b amount are known forward last all other = all
kept_by_all h groups Count a b amount are known forward last all other = absurd (other refl)

pub keeps-all : (h : History) (groups : GroupList) (a b : ℕ) (limit : Limit) → All (λ g. IsGroup g.1) groups
    → IsScopeKnown (length h.start) groups limit.scope → a ≤ b → b ≤ length h.sets
    → span h groups Everything a b ≤ limit.amount → (limit.scope ≡ Count → ⊥) → true ≡ keeps_limit h groups a b limit
keeps-all h groups a b limit are known forward last all other =
    sym (le-leb (span h groups limit.scope a b) limit.amount
    (kept_by_all h groups limit.scope a b limit.amount are known forward last all other))
