-- Names in tables: which stand where, and which may be added.
use Rattle.ordup_audit.proofs.Common.{◌++◌, ◌+◌, ◌<◌, ◌∙◌, ◌∷◌, ◌≡◌, ◌≤◌, [], AreDistinct, arith, cases_Bool, false, get_or, inl, inr}
use Rattle.ordup_audit.proofs.Common.{index_of, length, length-map, List, lt-ltb, map-append, names_of, None, pointwise, refl, Some, suc}
use Rattle.ordup_audit.proofs.Common.{zero, ℕ}
use Rattle.std.specs.Prelude.{nat_eq}
use Rattle.std.specs.List.{AllByRecursion, IsDistinct, position_or_len}
use Rattle.std.proofs.lemmas.Bool.{le-ltb}
use Rattle.std.proofs.lemmas.Cmp.{nat_list_eq_equiv}
use Rattle.std.proofs.lemmas.List.Elements.{All-from_recursion}
use Rattle.ordup_objects.proofs.TableLemmas.{absent}
use Rattle.ordup_rows.specs.Rows.{name_at}
use Rattle.ordup_rows.proofs.Columns.{bytes_same}

-- no name of a list is this one
abbrev pub IsNew : List ℕ → List (List ℕ) → Type 0
IsNew name names = AllByRecursion (λ other. pointwise nat_eq name other ≡ false) names

other_way : (x y : List ℕ) → pointwise nat_eq x y ≡ false → pointwise nat_eq y x ≡ false
other_way x y h = nat_list_eq_equiv.symm y x ∙ h

new_past : (name : List ℕ) (names : List (List ℕ)) → length names ≤ position_or_len (pointwise nat_eq name) names → IsNew name names
new_past name [] h = tt
new_past name (x ∷ names) h = elim (cases_Bool (pointwise nat_eq name x)) [
  | inl same ↦ (let first : position_or_len (pointwise nat_eq name) (x ∷ names) ≡ 0 = rw same refl in
      absurd (omega (arith, first)))
  | inr other ↦ (let one : position_or_len (pointwise nat_eq name) (x ∷ names) ≡ 1 + position_or_len (pointwise nat_eq name) names =
      rw other refl in
      (other, new_past name names (omega (arith, one))))
]

past_new : (name : List ℕ) (names : List (List ℕ)) → IsNew name names → position_or_len (pointwise nat_eq name) names ≡ length names
past_new name [] new = refl
past_new name (x ∷ names) new =
    let one : position_or_len (pointwise nat_eq name) (x ∷ names) ≡ 1 + position_or_len (pointwise nat_eq name) names = rw new.0 refl in
    omega (arith, one, past_new name names new.1)

-- a name has no place just where it is new
pub new_from_place : {V : Type 0} (name : List ℕ) (table : List (List ℕ × V)) → index_of name table ≡ None → IsNew name (names_of table)
new_from_place name table h = new_past name (names_of table) (absent (pointwise nat_eq name) (names_of table) h)

pub index_of-new : {V : Type 0} (name : List ℕ) (table : List (List ℕ × V)) → IsNew name (names_of table) → index_of name table ≡ None
index_of-new name table new =
    let end = past_new name (names_of table) new in
    rw (le-ltb (position_or_len (pointwise nat_eq name) (names_of table)) (length (names_of table)) (omega (arith, end))) refl

-- no names differ
pub AreDistinct-none : (V : Type 0) → AreDistinct {V = V} []
unfolding IsDistinct
AreDistinct-none V = tt

-- names that differ from one more
new_push : (x name : List ℕ) (names : List (List ℕ)) → IsNew x names → pointwise nat_eq name x ≡ false → IsNew x (names ++ name ∷ [])
new_push x name [] new other = (other_way name x other, tt)
new_push x name (y ∷ names) new other = (new.0, new_push x name names new.1 other)

distinct_push : (names : List (List ℕ)) (name : List ℕ) → IsDistinct (pointwise nat_eq) names → IsNew name names
    → IsDistinct (pointwise nat_eq) (names ++ name ∷ [])
unfolding IsDistinct
distinct_push [] name distinct new = (tt, tt)
distinct_push (x ∷ names) name distinct new = (new_push x name names distinct.0 new.0, distinct_push names name distinct.1 new.1)

new_inside : (x name : List ℕ) (names more : List (List ℕ)) → IsNew x (names ++ name ∷ more) → pointwise nat_eq name x ≡ false
new_inside x name [] more new = other_way x name new.0
new_inside x name (y ∷ names) more new = new_inside x name names more new.1

distinct_new : (names : List (List ℕ)) (name : List ℕ) (more : List (List ℕ)) → IsDistinct (pointwise nat_eq) (names ++ name ∷ more)
    → IsNew name names
unfolding IsDistinct
distinct_new [] name more distinct = tt
distinct_new (x ∷ names) name more distinct = (new_inside x name names more distinct.0, distinct_new names name more distinct.1)

module _ {V : Type 0} where
  -- a table with a name more
  pub AreDistinct-push : (table : List (List ℕ × V)) (e : List ℕ × V) → AreDistinct table → index_of e.0 table ≡ None
      → AreDistinct (table ++ e ∷ [])
  AreDistinct-push table e distinct none = rw map-append (distinct_push (names_of table) e.0 distinct (new_from_place e.0 table none))

  -- a name is not among those before it
  pub absent_before : (table : List (List ℕ × V)) (e : List ℕ × V) (more : List (List ℕ × V)) → AreDistinct (table ++ e ∷ more)
      → index_of e.0 table ≡ None
  absent_before table e more distinct =
      index_of-new e.0 table (distinct_new (names_of table) e.0 (names_of more) (rw map-append at distinct))

-- a name that is new is no name of the table
pub other_name : {V : Type 0} (name : List ℕ) (table : List (List ℕ × V)) (e : List ℕ × V) (more : List (List ℕ × V))
    → index_of name (table ++ e ∷ more) ≡ None
    → pointwise nat_eq name e.0 ≡ false
other_name name table e more none =
    other_way e.0 name (new_inside name e.0 (names_of table) (names_of more)
    (rw map-append at (new_from_place name (table ++ e ∷ more) none)))

distinct_place : (names : List (List ℕ)) (i : ℕ) → IsDistinct (pointwise nat_eq) names → i < length names
    → position_or_len (pointwise nat_eq (get_or names i [])) names ≡ i
unfolding IsDistinct
distinct_place [] i distinct lt = absurd (omega arith)
distinct_place (x ∷ names) zero distinct lt = rw (bytes_same x) refl
distinct_place (x ∷ names) (suc i) distinct lt =
    let new = All-from_recursion (λ y. pointwise nat_eq x y ≡ false) names distinct.0 in
    let other = other_way x (get_or names i []) (new i [] (omega arith)) in
    let one : position_or_len (pointwise nat_eq (get_or names i [])) (x ∷ names)
    ≡ 1 + position_or_len (pointwise nat_eq (get_or names i [])) names = rw other refl in
    omega (arith, one, distinct_place names i distinct.1 (omega arith))

-- a name is found at its place
pub index_of-name : {V : Type 0} (table : List (List ℕ × V)) (place : ℕ) → AreDistinct table → place < length table
    → index_of (name_at table place) table ≡ Some place
index_of-name table place distinct lt =
    let few : place < length (names_of table) = rw length-map lt in
    let is = distinct_place (names_of table) place distinct few in
    rw (is, lt-ltb place (length (names_of table)) few) refl
