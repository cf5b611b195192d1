-- Tables of names, in order of declaration.
use Rattle.std.specs.Prelude.{◌≡◌, ℕ, ℤ, ◌==◌, not, true, if◌then◌else◌}
use Rattle.std.specs.Prelude.{Option, Some, None, List, [], length, map, position}
use Rattle.std.specs.Prelude.{is_some, nat_eq, slice_index_or, slice_set, All}
use Rattle.std.specs.Cmp.Lexicographic.{pointwise}
use Rattle.std.specs.List.{IsDistinct}
use Rattle.ordup_objects.specs.declared.refusal.Refusal.{Refusal}
use Rattle.ordup_objects.specs.declared.refusal.Refusal.TheVariants.{BadName, NameTaken, OutOfRange, TooMany}
use Rattle.ordup_objects.specs.Sizes.{most_objects}
use Rattle.ordup_objects.specs.Names.{is_name}
use Rattle.ordup_objects.specs.States.{State, in_range}

-- the names of a table
abbrev pub names_of : {V : Type 0} → List (List ℕ × V) → List (List ℕ)
names_of table = map (λ e. e.0) table

-- the index of a name in a table, if it is there
abbrev pub index_of : {V : Type 0} → List ℕ → List (List ℕ × V) → Option ℕ
index_of name table = position (pointwise nat_eq name) (names_of table)

-- each name of a table is a name
abbrev pub AreNames : {V : Type 0} → List (List ℕ × V) → Type 0
AreNames table = All (λ e. is_name e.0 ≡ true) table

-- no name of a table comes twice
abbrev pub AreDistinct : {V : Type 0} → List (List ℕ × V) → Type 0
AreDistinct table = IsDistinct (pointwise nat_eq) (names_of table)

-- a table with another entry beside the name at a place
abbrev pub with_entry : {V : Type 0} → List (List ℕ × V) → ℕ → V → List (List ℕ × V)
with_entry table i entry = slice_set table i ((slice_index_or table i ([], entry)).0, entry)

-- the objects, with their initial values
abbrev pub Objects : Type 0
Objects = List (List ℕ × ℤ)

-- the initial state
abbrev pub initial_state : Objects → State
initial_state objects = map (λ e. e.1) objects

-- why an object is refused, if it is
abbrev pub object_refusal : Objects → List ℕ → ℤ → Option Refusal
object_refusal objects name initial =
    if not (is_name name) then Some BadName else
    if is_some (index_of name objects) then Some NameTaken else
    if not (in_range initial) then Some OutOfRange else
    if length objects == most_objects then Some TooMany else None
