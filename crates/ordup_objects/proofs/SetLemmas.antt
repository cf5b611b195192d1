-- What a set makes of a state: values stay in range, and each is the result of the change of its object, or stays.
use Rattle.std.proofs.Common.{◌≡◌, ℕ, ◌<◌, ◌≤◌, true, false, cond}
use Rattle.std.proofs.Common.{List, [], ◌∷◌, length, get_or, arith, refl, sym}
use Rattle.std.proofs.Common.{ap, ◌∙◌}
use Rattle.std.specs.Prelude.{All, ◌==◌}
use Rattle.std.specs.List.{list_any, fold, slice_set}
use Rattle.std.proofs.lemmas.List.Elements.{All-set, All-nil, All-cons}
use Rattle.std.proofs.Common.{ℤ, pos, sum, suc, inl, inr}
use Rattle.std.proofs.lemmas.Int.{ints}
use Rattle.std.proofs.Math.ListN.{length-set}
use Rattle.std.proofs.lemmas.Bool.{and_parts, or_parts, leb-true, eq-eqb, cases_lt, eqb-false, eqb-true, cases_Bool}
use Rattle.std.proofs.lemmas.List.{get_or-set_other, get_or_past, get_or-take, get_or-map}
use Rattle.std.proofs.lemmas.Grind.{get_or-set_at}
use Rattle.std.proofs.lemmas.List.Sums.{sum_by-cons}
use Rattle.std.specs.Int.RustNames.{unsigned_abs}
use Rattle.ordup_objects.specs.declared.change.Change.{Change}
use Rattle.ordup_objects.specs.States.{State, value_at, result_at, in_range, is_legal, AreResults, after, IsInRange, IsState}
use Rattle.ordup_objects.specs.Sizes.{greatest_value, greatest_distance}
use Rattle.ordup_objects.specs.Sums.{sum_from}
use Rattle.ordup_objects.specs.Repeats.{repeats}
use Rattle.ordup_objects.specs.Sets.{are_of_one_object, AreKnown}
use Rattle.ordup_objects.specs.Weights.{distance, distance_by, distances_of, distance_beside}
use Rattle.ordup_objects.proofs.SumLemmas.{sum_from-same, sum_from-constant, without, sum_from-without}

-- the value of an object after a set, by the change of the object
abbrev pub value_after : State → List Change → ℕ → ℤ
value_after v [] x = value_at v x
value_after v (c ∷ m) x = cond (c.object == x) (result_at v c) (value_after v m x)

-- how far a set moves the value of an object
abbrev pub moved_by : State → List Change → ℕ → ℕ
moved_by v [] x = 0
moved_by v (c ∷ m) x = cond (c.object == x) (distance_by v c) (moved_by v m x)

-- results that are in range keep the values in range
after_from : (v : State) (m : List Change) (w : State) → IsState w → is_legal m v ≡ true
    → IsState (fold (λ u c. slice_set u c.object (result_at v c)) w m)
after_from v [] w is legal = is
after_from v (c ∷ m) w is legal =
    let both : (in_range (result_at v c) ≡ true) × (is_legal m v ≡ true) = and_parts _ _ legal in
    after_from v m _ (All-set IsInRange w c.object (result_at v c) (leb-true _ _ both.0) is) both.1

pub IsState-after : (v : State) (m : List Change) → IsState v → is_legal m v ≡ true → IsState (after m v)
IsState-after v m is legal = after_from v m v is legal

-- a fold that changes other objects leaves this one
others_kept : (v : State) (m : List Change) (w : State) (x : ℕ) → list_any (λ d. d.object == x) m ≡ false
    → value_at (fold (λ u c. slice_set u c.object (result_at v c)) w m) x ≡ value_at w x
others_kept v [] w x none = refl
others_kept v (c ∷ m) w x none =
    let both : (c.object == x) ≡ false × list_any (λ d. d.object == x) m ≡ false = or_parts _ _ none in
    others_kept v m _ x both.1 ∙ get_or-set_other w c.object x (result_at v c) (pos 0) (λ e. eqb-false c.object x both.0 (sym e))

changed_one : (v : State) (m : List Change) (w : State) (x : ℕ) → repeats are_of_one_object m ≡ false
    → All (λ c. c.object < length w) m → value_at w x ≡ value_at v x
    → value_at (fold (λ u c. slice_set u c.object (result_at v c)) w m) x ≡ value_after v m x
changed_one v [] w x distinct known same = same
changed_one v (c ∷ m) w x distinct known same =
    let apart : list_any (λ d. d.object == c.object) m ≡ false × repeats are_of_one_object m ≡ false = or_parts _ _ distinct in
    elim (cases_Bool (c.object == x)) [
      | inl e ↦ (let here : c.object ≡ x = eqb-true c.object x e in
          let none : list_any (λ d. d.object == x) m ≡ false = rw here at apart.0 in
          rw e (others_kept v m _ x none ∙ get_or-set_at w c.object x (result_at v c) (pos 0) (sym here) (known 0 c (omega arith))))
      | inr e ↦ rw e (changed_one v m _ x apart.1
          (λ k d h. rw length-set (known (suc k) d (omega arith)))
          (get_or-set_other w c.object x (result_at v c) (pos 0) (λ f. eqb-false c.object x e (sym f)) ∙ same))
    ]

-- what stands at a place of the results of a set
pub result_is : (v : State) (m : List Change) (results : List ℤ) (i : ℕ) (c : Change) → i < length m → AreResults v m results
    → c ≡ get_or m i c → get_or results i (pos 0) ≡ result_at v c
result_is v m results i c lt are same =
    sym (get_or-take (length m) results i (pos 0) lt) ∙ ap (λ rs. get_or rs i (pos 0)) are
    ∙ get_or-map (result_at v) m i c (pos 0) lt ∙ ap (result_at v) (sym same)

-- what a set makes of one value
pub value_at-after : (v : State) (m : List Change) (x : ℕ) → repeats are_of_one_object m ≡ false → AreKnown (length v) m
    → value_at (after m v) x ≡ value_after v m x
value_at-after v m x distinct known = changed_one v m v x distinct (λ k d h. (known k d h).0) refl

pub distance-same : (a : ℤ) → distance a a ≡ 0
distance-same a = grind (arith, ints)

moved : (v : State) (m : List Change) (x : ℕ) → distance (value_after v m x) (value_at v x) ≡ moved_by v m x
moved v [] x = distance-same (value_at v x)
moved v (c ∷ m) x = elim (cases_Bool (c.object == x)) [
  | inl e ↦ rw e (ap (λ y. distance (result_at v c) (value_at v y)) (sym (eqb-true c.object x e)))
  | inr e ↦ rw e (moved v m x)
]

-- how far a set moves one value
pub distance-after : (v : State) (m : List Change) (x : ℕ) → repeats are_of_one_object m ≡ false → AreKnown (length v) m
    → distance (value_at (after m v) x) (value_at v x) ≡ moved_by v m x
distance-after v m x distinct known = rw (value_at-after v m x distinct known) (moved v m x)

pub distance_beside-distances_of : (v : State) (m : List Change) (x : ℕ) → distance_beside m (distances_of v m) x ≡ moved_by v m x
distance_beside-distances_of v [] x = refl
distance_beside-distances_of v (c ∷ m) x = ap (cond (c.object == x) (distance_by v c)) (distance_beside-distances_of v m x)

-- what no change is of is not moved
pub moved_by-none : (v : State) (m : List Change) (x : ℕ) → list_any (λ d. d.object == x) m ≡ false → moved_by v m x ≡ 0
moved_by-none v [] x none = refl
moved_by-none v (c ∷ m) x none =
    let both : (c.object == x) ≡ false × list_any (λ d. d.object == x) m ≡ false = or_parts _ _ none in
    rw both.0 (moved_by-none v m x both.1)

-- without the change of an object the others move what they move
moved_by-without : (v : State) (c : Change) (m : List Change) (x : ℕ) → list_any (λ d. d.object == c.object) m ≡ false
    → without c.object (moved_by v (c ∷ m)) x ≡ moved_by v m x
moved_by-without v c m x none = elim (cases_Bool (c.object == x)) [
  | inl e ↦ (let here : c.object ≡ x = eqb-true c.object x e in rw e (sym (moved_by-none v m x (rw here at none))))
  | inr e ↦ rw e refl
]

-- all objects together are moved by what the changes of a set move
sum_from-moved_by : (v : State) (m : List Change) (n : ℕ) → repeats are_of_one_object m ≡ false → All (λ c. c.object < n) m
    → sum_from (moved_by v m) 0 n ≡ sum (distances_of v m)
sum_from-moved_by v [] n distinct known = omega (arith, sum_from-constant 0 0 n)
sum_from-moved_by v (c ∷ m) n distinct known =
    let apart : list_any (λ d. d.object == c.object) m ≡ false × repeats are_of_one_object m ≡ false = or_parts _ _ distinct in
    let lt : c.object < n = known 0 c (omega arith) in
    let here : moved_by v (c ∷ m) c.object ≡ distance_by v c = rw (eq-eqb c.object c.object refl) refl in
    omega (
      arith,
      here,
      sum_from-without c.object (moved_by v (c ∷ m)) 0 n (omega arith) (omega arith),
      sum_from-same (without c.object (moved_by v (c ∷ m))) (moved_by v m) 0 n (λ x below. moved_by-without v c m x apart.0),
      sum_from-moved_by v m n apart.1 (λ k d h. known (suc k) d (omega arith)),
      sum_by-cons (λ (x : ℕ). x) (distance_by v c) (distances_of v m),
    )

-- a set moves its objects' values by its distances, and others by none
pub distances-after : (v : State) (m : List Change) (n : ℕ) → repeats are_of_one_object m ≡ false → AreKnown (length v) m
    → n ≡ length v
    → sum_from (λ x. distance (value_at (after m v) x) (value_at v x)) 0 n ≡ sum (distances_of v m)
distances-after v m n distinct known e =
    sum_from-same _ (moved_by v m) 0 n (λ x below. distance-after v m x distinct known)
    ∙ sum_from-moved_by v m n distinct (λ k d h. let lt : (get_or m k d).object < length v = (known k d h).0 in omega arith)

-- two values in range are no further apart than the range is wide
pub distance-in_range : (a b : ℤ) → unsigned_abs a ≤ greatest_value → unsigned_abs b ≤ greatest_value
    → distance a b ≤ greatest_distance
distance-in_range a b h k = grind (arith, ints)

get_or-state : (v : State) (x : ℕ) → IsState v → unsigned_abs (value_at v x) ≤ greatest_value
get_or-state v x is = elim (cases_lt x (length v)) [ inl lt ↦ is x (pos 0) lt | inr le ↦ rw (get_or_past v x (pos 0) le) (omega arith) ]

-- a legal set moves each value by no more than the range is wide
pub distances_of-few : (v : State) (m : List Change) → IsState v → is_legal m v ≡ true
    → All (λ d. d ≤ greatest_distance) (distances_of v m)
distances_of-few v [] is legal = All-nil (λ d. d ≤ greatest_distance)
distances_of-few v (c ∷ m) is legal =
    let both : (in_range (result_at v c) ≡ true) × (is_legal m v ≡ true) = and_parts _ _ legal in
    All-cons (λ d. d ≤ greatest_distance) (distance_by v c) (distances_of v m)
    (distance-in_range (result_at v c) (value_at v c.object) (leb-true _ _ both.0) (get_or-state v c.object is))
    (distances_of-few v m is both.1)

pub distance_beside-few : (m : List Change) (ds : List ℕ) (x : ℕ) → All (λ d. d ≤ greatest_distance) ds
    → distance_beside m ds x ≤ greatest_distance
distance_beside-few [] ds x few = omega arith
distance_beside-few (c ∷ m) [] x few = omega arith
distance_beside-few (c ∷ m) (d ∷ ds) x few = elim (cases_Bool (c.object == x)) [
  | inl e ↦ rw e (few 0 0 (omega arith))
  | inr e ↦ rw e (distance_beside-few m ds x (λ k b h. few (suc k) b (omega arith)))
]
