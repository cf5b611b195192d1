-- Which lists of changes are message sets.
use Rattle.std.specs.Prelude.{◌≡◌, ℕ, ◌<◌, ◌≤◌, ◌&&◌, ◌==◌, not, if◌then◌else◌}
use Rattle.std.specs.Prelude.{Option, Some, None, IfSome, Bool, false, List}
use Rattle.std.specs.Prelude.{length, nat_lt, All}
use Rattle.std.specs.List.{list_all}
use Rattle.ordup_objects.specs.declared.refusal.Refusal.{Refusal}
use Rattle.ordup_objects.specs.declared.refusal.Refusal.TheVariants.{UnknownObject, OutOfRange, TooMany, Empty, Repeated}
use Rattle.ordup_objects.specs.declared.change.Change.{Change}
use Rattle.ordup_objects.specs.Sizes.{most_changes}
use Rattle.ordup_objects.specs.Ops.{number_of, source_of, is_none_or}
use Rattle.ordup_objects.specs.Repeats.{repeats}
use Rattle.ordup_objects.specs.States.{in_range, IsInRange}

-- the objects of a change, its own and the one that it reads, are among the first n
abbrev pub is_known : ℕ → Change → Bool
is_known n c = nat_lt c.object n && is_none_or (source_of c.op) (λ y. nat_lt y n)

-- the objects of all changes are among the first n
abbrev pub are_known : ℕ → List Change → Bool
are_known n m = list_all (is_known n) m

-- the numbers of all changes are in range
abbrev pub are_in_range : List Change → Bool
are_in_range m = list_all (λ c. is_none_or (number_of c.op) in_range) m

-- two changes are of one object
abbrev pub are_of_one_object : Change → Change → Bool
are_of_one_object c d = d.object == c.object

-- the first refusal of changes as a message set over n objects, if any
abbrev pub set_refusal : ℕ → List Change → Option Refusal
set_refusal n m =
    if not (are_known n m) then Some UnknownObject else
    if not (are_in_range m) then Some OutOfRange else
    if nat_lt most_changes (length m) then Some TooMany else
    if length m == 0 then Some Empty else
    if repeats are_of_one_object m then Some Repeated else None

-- the objects of a change are among the first n, as a fact
abbrev pub IsKnown : ℕ → Change → Type 0
IsKnown n c = (c.object < n) × IfSome (source_of c.op) (λ y. y < n)

-- the objects of all changes are among the first n, as a fact
abbrev pub AreKnown : ℕ → List Change → Type 0
AreKnown n m = All (IsKnown n) m

-- the numbers of all changes are in range, as a fact
abbrev pub AreInRange : List Change → Type 0
AreInRange m = All (λ c. IfSome (number_of c.op) IsInRange) m

-- 1 to 64 changes of distinct objects, with their numbers in range
pub record IsSet (m : List Change) : Type 0 where
  pub some : 0 < length m
  pub few : length m ≤ most_changes
  pub numbers : AreInRange m
  pub distinct : repeats are_of_one_object m ≡ false
