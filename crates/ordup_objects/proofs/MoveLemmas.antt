-- What the changes of a set make of their objects.
use Rattle.std.proofs.Common.{◌≡◌, ℕ, zero, suc, ℤ, ◌+◌, ◌<◌, ◌≤◌, true, List, [], ◌∷◌, ◌++◌, length, take, get_or, pos}
use Rattle.std.proofs.Common.{arith, ap, sym, ◌∙◌}
use Rattle.std.proofs.lemmas.Bool.{and_parts, leb-true}
use Rattle.std.proofs.lemmas.List.{get_or-map, map_more, length-map}
use Rattle.std.specs.Int.RustNames.{unsigned_abs}
use Rattle.ordup_objects.specs.declared.change.Change.{Change}
use Rattle.ordup_objects.specs.States.{State, value_at, result_at, is_legal, AreResults, IsState}
use Rattle.ordup_objects.specs.Sizes.{greatest_value, greatest_distance}
use Rattle.ordup_objects.specs.Weights.{distance, distance_by}
use Rattle.ordup_objects.specs.Moves.{moved_by, moves_of}
use Rattle.ordup_objects.proofs.SetLemmas.{result_is, distances_of-few}

-- each result of a legal set is in range
in_range-at : (v : State) (m : List Change) (i : ℕ) (c : Change) → is_legal m v ≡ true → i < length m → c ≡ get_or m i c
    → unsigned_abs (result_at v c) ≤ greatest_value
in_range-at v [] i c legal lt same = absurd (omega (arith, lt))
in_range-at v (d ∷ m) zero c legal lt same = rw same (leb-true _ _ (and_parts _ _ legal).0)
in_range-at v (d ∷ m) (suc i) c legal lt same = in_range-at v m i c (and_parts _ _ legal).1 (omega arith) same

pub value-few : (v : State) (m : List Change) (results : List ℤ) (i : ℕ) (c : Change) → is_legal m v ≡ true
    → i < length m → AreResults v m results → c ≡ get_or m i c → unsigned_abs (get_or results i (pos 0)) ≤ greatest_value
value-few v m results i c legal lt are same = rw (result_is v m results i c lt are same) (in_range-at v m i c legal lt same)

-- one move more, by the result of its change
pub moves_of-more : (v : State) (m : List Change) (results : List ℤ) (i d : ℕ) (r : ℤ) (c : Change) → i < length m
    → AreResults v m results → c ≡ get_or m i c → r ≡ get_or results i (pos 0) → d ≡ distance r (value_at v c.object)
    → moves_of v (take i m) ++ record { object = c.object; value = r; distance = d } ∷ [] ≡ moves_of v (take (i + 1) m)
moves_of-more v m results i d r c lt are same at is =
    let value : r ≡ result_at v c = at ∙ result_is v m results i c lt are same in
    let by : d ≡ distance_by v c = is ∙ ap (λ z. distance z (value_at v c.object)) value in
    rw (by, value) (ap (λ x. moves_of v (take i m) ++ moved_by v x ∷ []) same ∙ sym (map_more (moved_by v) m i c lt))

-- a change of a legal set moves its object by no more than the range is wide
pub distance-few : (v : State) (m : List Change) (results : List ℤ) (i d : ℕ) (c : Change) → IsState v → is_legal m v ≡ true
    → i < length m → AreResults v m results → c ≡ get_or m i c → d ≡ distance (get_or results i (pos 0)) (value_at v c.object)
    → d ≤ greatest_distance
distance-few v m results i d c state legal lt are same is =
    omega (
      arith,
      distances_of-few v m state legal i 0 (rw length-map lt),
      is,
      get_or-map (distance_by v) m i c 0 lt,
      ap (distance_by v) same,
      ap (λ r. distance r (value_at v c.object)) (result_is v m results i c lt are same),
    )
