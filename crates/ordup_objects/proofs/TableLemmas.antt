-- Names in tables.
use Rattle.std.proofs.Common.{◌≡◌, ℕ, zero, suc, ◌+◌, ◌<◌, ◌≤◌, Bool, false, true}
use Rattle.std.proofs.Common.{List, [], ◌∷◌, ◌++◌, length, take, get_or, Some, None, refl}
use Rattle.std.proofs.Common.{ap, ◌∙◌, sym, inl, inr, arith, nat_eq, length-take}
use Rattle.std.proofs.Math.Seq.{map-set_same}
use Rattle.std.proofs.lemmas.Bool.{cases_Bool, cases_lt, lt-ltb, le-ltb}
use Rattle.std.proofs.lemmas.Cmp.{nat_list_eq_equiv}
use Rattle.std.proofs.lemmas.List.{get_or-map, get_or-take, length-map, length_push, map-append, map-set, take-map, take_more, take_more_set}
use Rattle.std.proofs.lemmas.List.Elements.{All-push, All-set}
use Rattle.std.proofs.lemmas.List.Sums.{passes_at_first, position_or_len_is}
use Rattle.std.proofs.lemmas.Map.Keys.{apart_from_distinct}
use Rattle.std.proofs.lemmas.Option.{get_or_from_slice_get, slice_get_cases}
use Rattle.std.specs.List.{position, position_or_len}
use Rattle.std.specs.Prelude.{ℤ, pos, slice_get}
use Rattle.std.specs.Cmp.Lexicographic.{pointwise, bytes_decides}
use Rattle.indexmap.specs.IndexMap.{insert_entry, set_value_at}
use Rattle.ordup_objects.specs.Names.{is_name}
use Rattle.ordup_objects.specs.Sizes.{most_objects}
use Rattle.ordup_objects.specs.Tables.{Objects, names_of, index_of, with_entry, initial_state, AreNames, AreDistinct}
use Rattle.ordup_objects.specs.States.{State, value_at, IsInRange, IsState}

-- what is at no place is not before the end
pub absent : {X : Type 0} (p : X → Bool) (xs : List X) → position p xs ≡ None → length xs ≤ position_or_len p xs
absent p xs h = elim (cases_lt (position_or_len p xs) (length xs)) [
  | inl lt ↦ (let found = lt-ltb (position_or_len p xs) (length xs) lt in
      let is : position p xs ≡ Some (position_or_len p xs) = rw found refl in
      absurd (cc))
  | inr le ↦ le
]

inserted_last : {V : Type 0} (name : List ℕ) (entry : V) (table : List (List ℕ × V))
    → length (names_of table) ≤ position_or_len (pointwise nat_eq name) (names_of table)
    → insert_entry (pointwise nat_eq) table name entry ≡ table ++ (name, entry) ∷ []
inserted_last name entry [] h = refl
inserted_last name entry (e ∷ table) h = elim (cases_Bool (pointwise nat_eq name e.0)) [
  | inl same ↦ (let first : position_or_len (pointwise nat_eq name) (names_of (e ∷ table)) ≡ 0 = rw same refl in
      absurd (omega (arith, first)))
  | inr other ↦ (let rest = position_or_len (pointwise nat_eq name) (names_of table) in
      let one : position_or_len (pointwise nat_eq name) (names_of (e ∷ table)) ≡ 1 + rest = rw other refl in
      rw other (ap (λ es. e ∷ es) (inserted_last name entry table (omega (arith, one)))))
]

-- a name that is not there goes last
pub insert_entry-absent : {V : Type 0} (name : List ℕ) (entry : V) (table : List (List ℕ × V)) → index_of name table ≡ None
    → insert_entry (pointwise nat_eq) table name entry ≡ table ++ (name, entry) ∷ []
insert_entry-absent name entry table h = inserted_last name entry table (absent (pointwise nat_eq name) (names_of table) h)

-- the initial value of the object at a place
pub initial-at : (objects : List (List ℕ × ℤ)) (i : ℕ) (name : List ℕ) (value : ℤ) → slice_get objects i ≡ Some (name, value)
    → value ≡ value_at (initial_state objects) i
initial-at [] i name value h = absurd (cc)
initial-at (e ∷ objects) zero name value h = cc
initial-at (e ∷ objects) (suc i) name value h = initial-at objects i name value h

-- what fails the test everywhere is at no place
position-none : {X : Type 0} (p : X → Bool) (xs : List X) (d : X) → ((k : ℕ) → k < length xs → p (get_or xs k d) ≡ false)
    → position p xs ≡ None
position-none p xs d fails = elim (cases_lt (position_or_len p xs) (length xs)) [
  | inl lt ↦ (let found = passes_at_first p xs d lt in
      let not_found = fails (position_or_len p xs) lt in
      absurd (cc))
  | inr le ↦ rw (le-ltb (position_or_len p xs) (length xs) le) refl
]

-- the name of the entry at a place
named-at : {V : Type 0} (table : List (List ℕ × V)) (i : ℕ) (name : List ℕ) (entry : V) → slice_get table i ≡ Some (name, entry)
    → (i < length (names_of table)) × (get_or (names_of table) i [] ≡ name)
named-at {V} table i name entry at =
    let lt : i < length table = elim (slice_get_cases table i).1 [ inl in_list ↦ in_list.1 | inr past ↦ absurd (cc) ] in
    let count : length (names_of table) ≡ length table = length-map table (λ e. e.0) in
    let entry_at : get_or table i (name, entry) ≡ (name, entry) = get_or_from_slice_get table i (name, entry) (name, entry) at in (
      omega arith,
      get_or-map (λ (e : List ℕ × V). e.0) table i (name, entry) [] lt ∙ ap (λ (e : List ℕ × V). e.0) entry_at,
    )

-- where no name comes twice, no place before an entry has its name
apart-before : {V : Type 0} (table : List (List ℕ × V)) (i : ℕ) (name : List ℕ) (entry : V) → AreDistinct table
    → slice_get table i ≡ Some (name, entry) → (k : ℕ) → k < i → pointwise nat_eq name (get_or (names_of table) k []) ≡ false
apart-before table i name entry distinct at k below =
    let names : List (List ℕ) = names_of table in
    let named = named-at table i name entry at in
    rw (← named.1)
    (nat_list_eq_equiv.symm (get_or names i []) (get_or names k [])
    ∙ apart_from_distinct (pointwise nat_eq) names k i [] distinct below named.0)

-- so no entry before one has its name
pub index_of-before : {V : Type 0} (table : List (List ℕ × V)) (i : ℕ) (name : List ℕ) (entry : V) → AreDistinct table
    → slice_get table i ≡ Some (name, entry) → index_of name (take i table) ≡ None
index_of-before {V} table i name entry distinct at =
    let names : List (List ℕ) = names_of table in
    let before : names_of (take i table) ≡ take i names = sym (take-map (λ (e : List ℕ × V). e.0) i table) in
    rw before (position-none (pointwise nat_eq name) (take i names) [] (λ k h.
    let below : k < i = omega (arith, length-take i names) in
    rw (get_or-take i names k [] below) (apart-before table i name entry distinct at k below)))

-- and the index of an entry is the index of its name
pub index_of-at : {V : Type 0} (table : List (List ℕ × V)) (i : ℕ) (name wanted : List ℕ) (entry : V) → AreDistinct table
    → slice_get table i ≡ Some (name, entry) → pointwise nat_eq wanted name ≡ true → index_of wanted table ≡ Some i
index_of-at table i name wanted entry distinct at same =
    let names : List (List ℕ) = names_of table in
    let named = named-at table i name entry at in
    let is : wanted ≡ name = (bytes_decides wanted name).0 same in
    let first : position_or_len (pointwise nat_eq wanted) names ≡ i =
    position_or_len_is (pointwise nat_eq wanted) names i [] (omega (arith, named.0))
    (λ k h. rw is (apart-before table i name entry distinct at k h))
    (λ h. rw (named.1) same) in
    let found = lt-ltb (position_or_len (pointwise nat_eq wanted) names) (length names) (rw first named.0) in
    let at_first : position (pointwise nat_eq wanted) names ≡ Some (position_or_len (pointwise nat_eq wanted) names) = rw found refl in
    at_first ∙ ap (λ n. Some n) first

-- a prefix with the entry after it is the longer prefix
pub take-next : {X : Type 0} (xs : List X) (i : ℕ) (x : X) → slice_get xs i ≡ Some x → take (i + 1) xs ≡ take i xs ++ x ∷ []
take-next xs i x at =
    let lt : i < length xs = elim (slice_get_cases xs i).1 [ inl in_list ↦ in_list.1 | inr past ↦ absurd (cc) ] in
    take_more xs i x lt ∙ ap (λ y. take i xs ++ y ∷ []) (get_or_from_slice_get xs i x x at)

-- a table with another entry at a place, as an `IndexMap` has it
pub set_value_at-is : {V : Type 0} (table : List (List ℕ × V)) (i : ℕ) (entry : V)
    → set_value_at table i entry ≡ with_entry table i entry
set_value_at-is [] zero entry = refl
set_value_at-is [] (suc i) entry = refl
set_value_at-is (e ∷ table) zero entry = refl
set_value_at-is (e ∷ table) (suc i) entry = ap (λ es. e ∷ es) (set_value_at-is table i entry)

-- another entry leaves the names names
pub AreNames-with_entry : {V : Type 0} (table : List (List ℕ × V)) (i : ℕ) (entry : V) → i < length table → AreNames table
    → AreNames (with_entry table i entry)
AreNames-with_entry {V} table i entry lt are =
    All-set (λ (e : List ℕ × V). is_name e.0 ≡ true) table i ((get_or table i ([], entry)).0, entry) (are i ([], entry) lt) are

-- objects stay few and with values in range by one more, where they are few enough
pub objects-longer : (objects more : Objects) (name : List ℕ) (initial : ℤ) → more ≡ objects ++ (name, initial) ∷ []
    → length objects < most_objects → IsInRange initial → IsState (initial_state objects)
    → (length more ≤ most_objects) × IsState (initial_state more)
objects-longer objects more name initial e spare range state =
    let count : length more ≡ length objects + 1 = ap length e ∙ length_push objects (name, initial) in (
      omega arith,
      rw (e, map-append (λ (o : List ℕ × ℤ). o.1) objects ((name, initial) ∷ []))
          (All-push IsInRange (initial_state objects) initial state range),
    )

-- ---- another entry beside a name

pub names-with_entry : {V : Type 0} (table : List (List ℕ × V)) (i : ℕ) (entry : V) → names_of (with_entry table i entry) ≡ names_of table
names-with_entry table i entry = map-set_same (λ e. e.0) table i ((get_or table i ([], entry)).0, entry) ([], entry) refl

-- one more object begins at its value
pub begun-more : (objects : Objects) (values : State) (i : ℕ) (z : ℤ) → i < length objects → length values ≡ length objects
    → z ≡ value_at values i → take i (initial_state objects) ≡ take i values
    → take (i + 1) (initial_state (with_entry objects i z)) ≡ take (i + 1) values
begun-more objects values i z there count is before =
    let within : i < length (initial_state objects) = omega (arith, length-map objects (λ e. e.1)) in
    ap (take (i + 1)) (map-set (λ e. e.1) objects i ((get_or objects i ([], z)).0, z)) ∙ take_more_set (initial_state objects) i z within
    ∙ rw (before, is) (sym (take_more values i (pos 0) (omega arith)))
