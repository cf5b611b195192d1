-- What a record ends with, and the row at which the next one differs from it.
use Rattle.std.specs.Prelude.{◌≡◌, ◌≢◌, ◌⊎◌, ℕ, ◌+◌, List, [], length, take, slice_index_or}
use Rattle.ordup_objects.specs.Serial.{serial}
use Rattle.ordup_objects.specs.Tables.{Objects, initial_state, names_of}
use Rattle.ordup_log.specs.Groups.{GroupList}
use Rattle.ordup_audit.specs.Records.{RecordState, history_of}
use Rattle.ordup_audit.specs.Rows.{member_count}

-- ---- what a record ends with

-- the objects of a record, each beginning at its value after all updates of the record
pub record AreObjectsAtEnd (r : RecordState) (objects : Objects) : Type 0 where
  pub names : names_of objects ≡ names_of r.objects
  pub values : initial_state objects ≡ serial (history_of r) (length r.sets)

-- the site, the objects with their values after all updates, and the groups
pub record EndState : Type 0 where
  pub site : List ℕ
  pub objects : Objects
  pub groups : GroupList

-- what a record ends with
pub record IsEnd (r : RecordState) (end : EndState) : Type 0 where
  pub site : end.site ≡ r.site
  pub objects : AreObjectsAtEnd r end.objects
  pub groups : end.groups ≡ r.groups

-- a record begins with this
pub record BeginsWith (end : EndState) (next : RecordState) : Type 0 where
  pub site : next.site ≡ end.site
  pub objects : next.objects ≡ end.objects
  pub groups : next.groups ≡ end.groups

-- ---- the first difference

-- two lists are the same up to their first i entries, and differ after these: in an entry, or one of them ends
pub record DifferAfter {X : Type 0} (i : ℕ) (xs ys : List X) : Type 0 where
  pub same : take i xs ≡ take i ys
  pub differ : take (i + 1) xs ≢ take (i + 1) ys

-- a group, and one without a name where there is none
abbrev pub group_at : GroupList → ℕ → List ℕ × List ℕ
group_at groups k = slice_index_or groups k ([], [])

-- the members of two groups differ after so many, none where their names do
abbrev pub GroupsDifferAfter : ℕ → List ℕ × List ℕ → List ℕ × List ℕ → Type 0
GroupsDifferAfter j g h = ((g.0 ≢ h.0) × (j ≡ 0)) ⊎ ((g.0 ≡ h.0) × DifferAfter j g.1 h.1)

-- the members of all groups differ after so many
abbrev pub MembersDifferAfter : ℕ → GroupList → GroupList → Type 0
MembersDifferAfter n groups others =
    (k : ℕ) × (j : ℕ) × DifferAfter k groups others × GroupsDifferAfter j (group_at groups k) (group_at others k)
    × (n ≡ member_count (take k others) + j)

-- the row of a record, counted from 1, at which its objects and groups first differ from these: that of an object or of a member; or,
-- where objects or members are missing, the one that stands in the place of the first of these
abbrev pub TablesDifferAtRow : Objects → GroupList → RecordState → ℕ → Type 0
TablesDifferAtRow objects groups next row =
    ((i : ℕ) × DifferAfter i objects next.objects × (row ≡ i + 2))
    ⊎ ((next.objects ≡ objects) × (n : ℕ) × MembersDifferAfter n groups next.groups × (row ≡ length next.objects + n + 2))

-- the row of a record at which it first differs from what it should begin with: that of the site, or of its objects and groups
abbrev pub DiffersAtRow : EndState → RecordState → ℕ → Type 0
DiffersAtRow end next row =
    ((next.site ≢ end.site) × (row ≡ 1)) ⊎ ((next.site ≡ end.site) × TablesDifferAtRow end.objects end.groups next row)
