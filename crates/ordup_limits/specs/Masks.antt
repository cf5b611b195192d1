-- Masks: for each object the limits on whose scopes its changes count.
use Rattle.std.specs.Prelude.{◌≡◌, ℕ, zero, suc, ◌<◌, ◌==◌, ◌&&◌, ◌||◌, Bool, true, false, List, [], ◌∷◌, ◌++◌, length, nat_lt}
use Rattle.std.specs.Prelude.{slice_index, slice_index_or}
use Rattle.std.specs.Int.{bit_at}
use Rattle.std.specs.List.{list_any}
use Rattle.ordup_objects.specs.Sizes.{most_objects}
use Rattle.ordup_log.specs.Groups.{GroupList, members_at}
use Rattle.ordup_log.specs.declared.scope.Scope.{Scope}
use Rattle.ordup_log.specs.declared.scope.Scope.TheVariants.{Object, Group, All as Everything, Count}
use Rattle.ordup_limits.specs.declared.limit.Limit.{Limit}
use Rattle.ordup_limits.specs.Limits.{Limits}
use Rattle.ordup_limits.specs.Sizes.{most_limits}

-- a change of object x counts on a scope, by its distance; none does on the count of updates
abbrev pub counts_on : GroupList → Scope → ℕ → Bool
counts_on groups (Object y) x = y == x
counts_on groups (Group g) x = list_any (λ y. y == x) (members_at groups g)
counts_on groups Everything x = true
counts_on groups Count x = false

-- the mask of object x has a bit for limit i
abbrev pub has_bit : List ℕ → ℕ → ℕ → Bool
has_bit masks i x = bit_at (slice_index masks x) i == 1

-- for each object the limits on whose scopes its changes count, a bit for each
abbrev pub AreMasks : GroupList → Limits → List ℕ → Type 0
AreMasks groups limits masks =
    (x i : ℕ) (d : Limit) → x < most_objects → i < most_limits
    → has_bit masks i x ≡ (nat_lt i (length limits) && counts_on groups (slice_index_or limits i d).scope x)

-- limits on the first n groups: the amounts do not count here
abbrev pub group_limits : ℕ → Limits
group_limits zero = []
group_limits (suc n) = group_limits n ++ record { scope = Group n; amount = 0 } ∷ []

-- for each object the groups that it is in, a bit for each
abbrev pub AreGroupMasks : GroupList → List ℕ → Type 0
AreGroupMasks groups masks = AreMasks groups (group_limits (length groups)) masks

-- the masks of the objects that pass a test gain the bit of a limit
abbrev pub GainBit : (ℕ → Bool) → ℕ → List ℕ → List ℕ → Type 0
GainBit test limit old new =
    (x i : ℕ) → x < most_objects → i < most_limits → has_bit new i x ≡ ((test x && (i == limit)) || has_bit old i x)
