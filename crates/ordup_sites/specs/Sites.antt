-- Records of several sites of one store: whether they have the same updates, and the row at which one differs.
use Rattle.std.specs.Prelude.{◌≡◌, ◌⊎◌, ℕ, ◌<◌, ◌≤◌, All, Contains, List, [], length, take, slice_index_or}
use Rattle.ordup_objects.specs.declared.change.Change.{Change}
use Rattle.ordup_objects.specs.Serial.{serial}
use Rattle.ordup_audit.specs.Records.{RecordState, history_of}
use Rattle.ordup_audit.specs.Rows.{change_row}
use Rattle.ordup_audit.specs.Validity.{IsValid}
use Rattle.ordup_audit.specs.Verdicts.{NoFewerRounds}
use Rattle.ordup_series.specs.Ends.{DifferAfter, TablesDifferAtRow}

-- ---- the same updates

-- the second list begins with the first
abbrev pub IsFrontOf : {X : Type 0} → List X → List X → Type 0
IsFrontOf xs ys = take (length xs) ys ≡ xs

-- two records have the same objects with the same initial values and the same groups, and the updates of one are the first of the other
pub record AreSame (q r : RecordState) : Type 0 where
  pub objects : r.objects ≡ q.objects
  pub groups : r.groups ≡ q.groups
  pub updates : IsFrontOf q.sets r.sets ⊎ IsFrontOf r.sets q.sets

-- each two of the records are the same as far as both go
abbrev pub AreEachTwoSame : List RecordState → Type 0
AreEachTwoSame records = (q r : RecordState) → Contains records q → Contains records r → AreSame q r

-- each record is valid, and each two are the same
abbrev pub AreValidSites : List RecordState → Type 0
AreValidSites records = All IsValid records × AreEachTwoSame records

-- no schedule of any of the records that keeps the limits of its site has fewer rounds
abbrev pub HaveFewestRounds : List RecordState → Type 0
HaveFewestRounds records = All (λ r. NoFewerRounds r (length r.rounds)) records

-- ---- the first difference

-- the update after the first i, and none where there is none
abbrev pub update_at : RecordState → ℕ → List Change
update_at r i = slice_index_or r.sets i []

-- the row of a record, counted from 1, at which its updates first differ from those of another one, as far as both go: that of a change;
-- or, where an update has too few changes, the one in the place of the first that is missing
abbrev pub UpdatesDifferAtRow : RecordState → RecordState → ℕ → Type 0
UpdatesDifferAtRow q r row =
    (i : ℕ) × (j : ℕ) × (i < length q.sets) × (i < length r.sets) × (take i q.sets ≡ take i r.sets)
    × DifferAfter j (update_at q i) (update_at r i) × (row ≡ change_row r i j)

-- the row of the record r at which it first differs from q: in its objects or groups, or else in its updates
abbrev pub DiffersFrom : RecordState → RecordState → ℕ → Type 0
DiffersFrom q r row =
    TablesDifferAtRow q.objects q.groups r row ⊎ ((r.objects ≡ q.objects) × (r.groups ≡ q.groups) × UpdatesDifferAtRow q r row)

-- the record differs at this row from one of these, and from each of them with which it is not the same
pub record DiffersAtFirst (done : List RecordState) (r : RecordState) (row : ℕ) : Type 0 where
  pub one : (q : RecordState) × Contains done q × DiffersFrom q r row
  pub each : (q : RecordState) → Contains done q → AreSame q r ⊎ DiffersFrom q r row

-- ---- a law

-- records that are the same have the same values after each update that both have
abbrev pub SameRecordsHaveTheSameValues : Type 0
SameRecordsHaveTheSameValues =
    (q r : RecordState) (k : ℕ) → AreSame q r → k ≤ length q.sets → k ≤ length r.sets → serial (history_of q) k ≡ serial (history_of r) k
