-- The definitions at small numbers, worked out by hand: no definition can change its meaning unseen.
use Rattle.std.proofs.Common.{◌≡◌, ℕ, pos, List, [], ◌∷◌, replicate, map, true, false, refl}
use Rattle.std.specs.Prelude.{Some, None, codes}
use Rattle.std.specs.List.{range_with_len}
use Rattle.ordup_objects.specs.declared.change.Change.{Change}
use Rattle.ordup_objects.specs.declared.change.Op.TheVariants.{Add}
use Rattle.ordup_objects.specs.declared.refusal.Refusal.TheVariants.{UnknownObject, UnknownGroup, OutOfRange, TooMany, Repeated}
use Rattle.ordup_objects.specs.Serial.{History}
use Rattle.ordup_log.specs.Groups.{GroupList}
use Rattle.ordup_log.specs.declared.scope.Scope.{Scope}
use Rattle.ordup_log.specs.declared.scope.Scope.TheVariants.{Object, Group, All as Everything, Count}
use Rattle.ordup_limits.specs.declared.limit.Limit.{Limit}
use Rattle.ordup_limits.specs.declared.limit_entry.LimitEntry.{LimitEntry}
use Rattle.ordup_limits.specs.Entries.{changed, change_refusal, in_force, latest}
use Rattle.ordup_limits.specs.Limits.{within, first_passed, is_same_scope, are_on_one_scope, limit_refusal}
use Rattle.ordup_objects.specs.Repeats.{repeats}

abbrev limit : Scope → ℕ → Limit
limit scope amount = record { scope = scope; amount = amount }

abbrev add : ℕ → ℕ → List Change
add x n = record { object = x; op = Add (pos n) } ∷ []

-- x at 0 and y at 10: 5 is added to x, then 1 to x, and then 7 to y
abbrev log : History
log = record { start = pos 0 ∷ pos 10 ∷ []; sets = add 0 5 ∷ add 0 1 ∷ add 1 7 ∷ [] }

-- y alone
abbrev groups : GroupList
groups = (codes "g", 1 ∷ []) ∷ []

-- 5 is within 5, equal is not over, and 6 is not; the empty span is within 0
withins : (within log groups (limit (Object 0) 5 ∷ []) 0 1 ≡ true)
    × (within log groups (limit (Object 0) 5 ∷ []) 0 2 ≡ false)
    × (within log groups (limit (Object 0) 5 ∷ []) 1 2 ≡ true)
    × (within log groups (limit Count 0 ∷ []) 2 2 ≡ true)
    × (within log groups [] 0 3 ≡ true)
withins = (refl, refl, refl, refl, refl)

-- on each scope the amount itself is kept, and one less is passed: 6 on x, 7 on y and on the group, 13 on all, and 3 updates
abbrev kept : List Limit
kept = limit (Object 0) 6 ∷ limit (Group 0) 7 ∷ limit Everything 13 ∷ limit Count 3 ∷ []

passed : (first_passed log groups kept 0 3 ≡ None)
    × (first_passed log groups (limit Count 3 ∷ limit (Object 0) 5 ∷ limit Everything 12 ∷ []) 0 3 ≡ Some 1)
    × (first_passed log groups (limit (Group 0) 6 ∷ kept) 0 3 ≡ Some 0)
    × (first_passed log groups (limit (Group 0) 6 ∷ kept) 0 2 ≡ None)
    × (first_passed log groups (limit (Object 0) 6 ∷ limit Count 2 ∷ []) 0 3 ≡ Some 1)
passed = (refl, refl, refl, refl, refl)

-- each scope is the same as itself alone
scopes : (map (is_same_scope (Object 1)) (Object 1 ∷ Object 0 ∷ Group 1 ∷ Everything ∷ Count ∷ [])
    ≡ true ∷ false ∷ false ∷ false ∷ false ∷ [])
    × (map (is_same_scope (Group 1)) (Object 1 ∷ Group 1 ∷ Group 0 ∷ Everything ∷ Count ∷ [])
    ≡ false ∷ true ∷ false ∷ false ∷ false ∷ [])
    × (map (is_same_scope Everything) (Object 1 ∷ Group 1 ∷ Everything ∷ Count ∷ []) ≡ false ∷ false ∷ true ∷ false ∷ [])
    × (map (is_same_scope Count) (Object 1 ∷ Group 1 ∷ Everything ∷ Count ∷ []) ≡ false ∷ false ∷ false ∷ true ∷ [])
    × (repeats are_on_one_scope (limit Count 1 ∷ limit Everything 1 ∷ limit Count 2 ∷ []) ≡ true)
scopes = (refl, refl, refl, refl, refl)

-- the order of the refusals of a limit over one object and one group: each of these could be refused later too
refusals : (limit_refusal 1 groups (replicate 64 (limit Count 1)) (Object 1) 1000000000000000001 ≡ Some UnknownObject)
    × (limit_refusal 1 groups (replicate 64 (limit Count 1)) (Group 1) 1000000000000000001 ≡ Some UnknownGroup)
    × (limit_refusal 1 groups (replicate 64 (limit Count 1)) Count 1000000000000000001 ≡ Some OutOfRange)
    × (limit_refusal 1 groups (replicate 64 (limit Count 1)) Count 1000000000000000000 ≡ Some TooMany)
    × (limit_refusal 1 groups (replicate 63 (limit Count 1)) Count 5 ≡ Some Repeated)
    × (limit_refusal 1 groups (replicate 63 (limit Count 1)) Everything 1000000000000000000 ≡ None)
refusals = (refl, refl, refl, refl, refl, refl)

-- ---- limits by place

abbrev entry : Scope → ℕ → ℕ → LimitEntry
entry scope amount place = record { limit = limit scope amount; place = place }

-- a limit of 5 on x from the start, 3 on x from place 2 on, 4 updates from place 2 on, and 0 on x from place 3 on
abbrev lowered : List LimitEntry
lowered = entry (Object 0) 5 1 ∷ entry (Object 0) 3 2 ∷ entry Count 4 2 ∷ entry (Object 0) 0 3 ∷ []

forces : (in_force lowered 0 ≡ [])
    × (in_force lowered 1 ≡ limit (Object 0) 5 ∷ [])
    × (in_force lowered 2 ≡ limit (Object 0) 3 ∷ limit Count 4 ∷ [])
    × (in_force lowered 3 ≡ limit (Object 0) 0 ∷ limit Count 4 ∷ [])
    × (in_force lowered 9 ≡ latest lowered)
forces = (refl, refl, refl, refl, refl)

-- a span keeps the limits that are in force at its end: the first update is within 5 at place 1, not within 0 at place 3
ends : (within log groups (in_force lowered 1) 0 1 ≡ true)
    × (within log groups (in_force lowered 2) 0 2 ≡ false)
    × (within log groups (in_force lowered 2) 1 2 ≡ true)
    × (within log groups (in_force lowered 3) 1 3 ≡ false)
    × (first_passed log groups (in_force lowered 3) 2 3 ≡ None)
ends = (refl, refl, refl, refl, refl)

-- an entry of the same scope and place is replaced where it stands; of another place, or another scope, it comes last
changes : (changed lowered (entry (Object 0) 7 3)
    ≡ entry (Object 0) 5 1 ∷ entry (Object 0) 3 2 ∷ entry Count 4 2 ∷ entry (Object 0) 7 3 ∷ [])
    × (changed (entry (Object 0) 5 1 ∷ entry (Object 0) 3 2 ∷ entry Count 4 2 ∷ []) (entry (Object 0) 7 2)
    ≡ entry (Object 0) 5 1 ∷ entry (Object 0) 7 2 ∷ entry Count 4 2 ∷ [])
    × (changed lowered (entry Everything 7 3)
    ≡ entry (Object 0) 5 1 ∷ entry (Object 0) 3 2 ∷ entry Count 4 2 ∷ entry (Object 0) 0 3 ∷ entry Everything 7 3 ∷ [])
    × (latest (entry Count 1 1 ∷ entry (Object 0) 2 1 ∷ entry Count 3 2 ∷ []) ≡ limit Count 3 ∷ limit (Object 0) 2 ∷ [])
changes = (refl, refl, refl, refl)

-- 64 scopes from the start, and one scope with 1,088 entries
abbrev wide : List LimitEntry
wide = map (λ x. entry (Object x) 1 1) (range_with_len 0 64)

abbrev long : List LimitEntry
long = map (λ k. entry Count 1 k) (range_with_len 1 1088)

-- the order of the refusals of a change, and what is replaced is never one too many
change_refusals : (change_refusal 99 groups wide (entry (Object 99) 1000000000000000001 2) ≡ Some UnknownObject)
    × (change_refusal 99 groups wide (entry (Group 1) 1000000000000000001 2) ≡ Some UnknownGroup)
    × (change_refusal 99 groups wide (entry Count 1000000000000000001 2) ≡ Some OutOfRange)
    × (change_refusal 99 groups wide (entry Count 1000000000000000000 2) ≡ Some TooMany)
    × (change_refusal 99 groups wide (entry (Object 63) 5 2) ≡ None)
    × (change_refusal 99 groups long (entry Count 5 1089) ≡ Some TooMany)
    × (change_refusal 99 groups long (entry Count 5 1088) ≡ None)
change_refusals = (refl, refl, refl, refl, refl, refl, refl)
