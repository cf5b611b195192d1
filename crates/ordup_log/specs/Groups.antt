-- Groups of objects.
use Rattle.std.specs.Prelude.{◌≡◌, ℕ, ◌-◌, ◌<◌, ◌≤◌, ◌==◌, ◌||◌, not, if◌then◌else◌}
use Rattle.std.specs.Prelude.{Option, Some, None, Bool, false, List, [], ◌∷◌, ◌++◌}
use Rattle.std.specs.Prelude.{length, nat_eq, nat_lt, is_some, slice_index_or, All}
use Rattle.std.specs.List.{list_all, list_any}
use Rattle.ordup_objects.specs.declared.refusal.Refusal.{Refusal}
use Rattle.ordup_objects.specs.declared.refusal.Refusal.TheVariants.{BadName, NameTaken, UnknownObject, TooMany, Empty, Repeated}
use Rattle.ordup_objects.specs.Sizes.{most_groups, most_members}
use Rattle.ordup_objects.specs.Names.{is_name}
use Rattle.ordup_objects.specs.Repeats.{repeats}
use Rattle.ordup_objects.specs.Tables.{index_of, with_entry}

-- the groups in order of declaration, each with its name and its members
abbrev pub GroupList : Type 0
GroupList = List (List ℕ × List ℕ)

-- the members of a group, by its place
abbrev pub members_at : GroupList → ℕ → List ℕ
members_at groups g = (slice_index_or groups g ([], [])).1

-- the members of the last group
abbrev pub last_members : GroupList → List ℕ
last_members groups = members_at groups (length groups - 1)

-- the groups with a member more in the last of them
abbrev pub with_member : GroupList → ℕ → GroupList
with_member groups member = with_entry groups (length groups - 1) (last_members groups ++ member ∷ [])

-- each member is one of the first n objects
abbrev pub are_members_known : ℕ → List ℕ → Bool
are_members_known n members = list_all (λ x. nat_lt x n) members

-- each member is one of the first n objects, as a fact
abbrev pub AreMembersKnown : ℕ → List ℕ → Type 0
AreMembersKnown n members = All (λ x. x < n) members

-- the members of each group are among the first n objects
abbrev pub AreGroupsKnown : ℕ → GroupList → Type 0
AreGroupsKnown n groups = All (λ g. AreMembersKnown n g.1) groups

-- why a group over n objects is refused, if it is
abbrev pub group_refusal : ℕ → GroupList → List ℕ → List ℕ → Option Refusal
group_refusal n groups name members =
    if not (is_name name) then Some BadName else
    if is_some (index_of name groups) then Some NameTaken else
    if not (are_members_known n members) then Some UnknownObject else
    if length groups == most_groups || nat_lt most_members (length members) then Some TooMany else
    if length members == 0 then Some Empty else
    if repeats nat_eq members then Some Repeated else None

-- why one of n objects is refused as a member after these, if it is
abbrev pub member_refusal : ℕ → List ℕ → ℕ → Option Refusal
member_refusal n members member =
    if not (nat_lt member n) then Some UnknownObject else
    if length members == most_members then Some TooMany else
    if list_any (nat_eq member) members then Some Repeated else None

-- 1 to 64 distinct members
pub record IsGroup (members : List ℕ) : Type 0 where
  pub some : 0 < length members
  pub few : length members ≤ most_members
  pub distinct : repeats nat_eq members ≡ false
