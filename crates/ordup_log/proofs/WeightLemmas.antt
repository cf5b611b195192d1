-- What updates weigh.
use Rattle.std.proofs.Common.{◌≡◌, ℕ, ◌-◌, ◌*◌, ◌<◌, ◌≤◌, List, [], length, get_or, arith, refl, sym, ◌∙◌, sum, sum_by}
use Rattle.std.specs.Prelude.{All}
use Rattle.std.proofs.lemmas.List.{length-map}
use Rattle.std.proofs.lemmas.List.Sums.{sum_by-le}
use Rattle.ordup_objects.specs.States.{value_at, after}
use Rattle.ordup_objects.specs.Serial.{History, serial, IsLegalHistory}
use Rattle.ordup_objects.specs.Sizes.{greatest_distance, most_members, most_updates, greatest_weight}
use Rattle.ordup_objects.specs.Sums.{sum_from}
use Rattle.ordup_objects.specs.Weights.{distance, object_weight, object_span, distance_by, distances_of, distance_beside}
use Rattle.ordup_objects.proofs.SumLemmas.{sum_from-same, sum_from-few}
use Rattle.ordup_objects.proofs.SetLemmas.{distance_beside-few, distance_beside-distances_of, distances_of-few, distance-after}
use Rattle.ordup_objects.proofs.SetLemmas.{distances-after}
use Rattle.ordup_objects.proofs.SerialLemmas.{serial-suc, length-serial, IsState-serial}
use Rattle.ordup_objects.proofs.SpanLemmas.{object_span-add}
use Rattle.ordup_log.proofs.SpanLemmas.{span-add}
use Rattle.ordup_log.specs.Groups.{GroupList, IsGroup, members_at}
use Rattle.ordup_log.specs.Spans.{weight, span, IsScopeKnown}
use Rattle.ordup_log.specs.declared.scope.Scope.{Scope}
use Rattle.ordup_log.specs.declared.scope.Scope.TheVariants.{Object, Group, All as Everything, Count}

-- an update's weight on an object is how far its set moves the value
object_weight-is : (h : History) (x j : ℕ) → j < length h.sets
    → distance (value_at (after (get_or h.sets j []) (serial h j)) x) (value_at (serial h j) x) ≡ object_weight h x j
object_weight-is h x j lt = rw (serial-suc h j lt) refl

-- the weight of an update on an object, by its distances
pub distance_beside-at : (h : History) → IsLegalHistory h → (x j : ℕ) → j < length h.sets
    → distance_beside (get_or h.sets j []) (distances_of (serial h j) (get_or h.sets j [])) x ≡ object_weight h x j
distance_beside-at h legal x j lt =
    let size : length (serial h j) ≡ length h.start = length-serial h j (omega arith) in
    distance_beside-distances_of (serial h j) (get_or h.sets j []) x
    ∙ sym (distance-after (serial h j) (get_or h.sets j []) x (legal.sets j [] lt).distinct (rw size (legal.known j [] lt)))
    ∙ object_weight-is h x j lt

-- the weight of an update on all objects, by its distances
pub sum-at : (h : History) → IsLegalHistory h → (j : ℕ) → j < length h.sets
    → sum (distances_of (serial h j) (get_or h.sets j [])) ≡ sum_from (λ x. object_weight h x j) 0 (length h.start)
sum-at h legal j lt =
    let size : length (serial h j) ≡ length h.start = length-serial h j (omega arith) in
    sym (distances-after (serial h j) (get_or h.sets j []) (length h.start) (legal.sets j [] lt).distinct
    (rw size (legal.known j [] lt)) (sym size))
    ∙ sum_from-same _ (λ x. object_weight h x j) 0 (length h.start) (λ x below. object_weight-is h x j lt)

-- each distance of an update is small
pub distances-few : (h : History) → IsLegalHistory h → (j : ℕ) → j < length h.sets
    → All (λ d. d ≤ greatest_distance) (distances_of (serial h j) (get_or h.sets j []))
distances-few h legal j lt = distances_of-few (serial h j) (get_or h.sets j []) (IsState-serial h legal j (omega arith)) (legal.legal j lt)

-- their sum is small
pub sum-few : (h : History) → IsLegalHistory h → (j : ℕ) → j < length h.sets
    → sum (distances_of (serial h j) (get_or h.sets j [])) ≤ greatest_weight
sum-few h legal j lt =
    omega (
      arith,
      sum_by-le (λ (d : ℕ). d) greatest_distance (distances_of (serial h j) (get_or h.sets j [])) (distances-few h legal j lt),
      length-map (get_or h.sets j []) (distance_by (serial h j)),
      (legal.sets j [] lt).few,
    )

-- the distance of an update on an object is small
pub distance_beside-few-at : (h : History) → IsLegalHistory h → (x j : ℕ) → j < length h.sets
    → distance_beside (get_or h.sets j []) (distances_of (serial h j) (get_or h.sets j [])) x ≤ greatest_distance
distance_beside-few-at h legal x j lt =
    distance_beside-few (get_or h.sets j []) (distances_of (serial h j) (get_or h.sets j [])) x (distances-few h legal j lt)

-- the weight of an update on an object is small
pub object_weight-few : (h : History) → IsLegalHistory h → (x j : ℕ) → j < length h.sets
    → object_weight h x j ≤ greatest_distance
object_weight-few h legal x j lt = omega (arith, distance_beside-at h legal x j lt, distance_beside-few-at h legal x j lt)

-- the weight of an update is small on all objects
pub all_weight-few : (h : History) → IsLegalHistory h → (j : ℕ) → j < length h.sets
    → sum_from (λ x. object_weight h x j) 0 (length h.start) ≤ greatest_weight
all_weight-few h legal j lt = omega (arith, sum-at h legal j lt, sum-few h legal j lt)

-- and on a few of them
members_weight-few : (h : History) → IsLegalHistory h → (members : List ℕ) (j : ℕ) → length members ≤ most_members
    → j < length h.sets → sum_by (λ x. object_weight h x j) members ≤ greatest_weight
members_weight-few h legal members j few lt =
    omega (
      arith,
      sum_by-le (λ x. object_weight h x j) greatest_distance members
          (λ k d below. object_weight-few h legal (get_or members k d) j lt),
    )

-- so it is on every scope that is there
pub weight-few : (h : History) → IsLegalHistory h → (groups : GroupList) → All (λ g. IsGroup g.1) groups → (s : Scope)
    → IsScopeKnown (length h.start) groups s → (j : ℕ) → j < length h.sets → weight h groups s j ≤ greatest_weight
weight-few h legal groups are (Object x) known j lt = omega (arith, object_weight-few h legal x j lt)
weight-few h legal groups are (Group g) known j lt =
    members_weight-few h legal (members_at groups g) j (are g ([], []) known).few lt
weight-few h legal groups are Everything known j lt = all_weight-few h legal j lt
weight-few h legal groups are Count known j lt = omega arith

-- so are the weights of the updates up to a place, on an object
pub object_span-few : (h : History) → IsLegalHistory h → (x p : ℕ) → p ≤ length h.sets → object_span h x 0 p ≤ greatest_distance * p
object_span-few h legal x p le =
    omega (
      arith,
      sum_from-few (object_weight h x) greatest_distance 0 (p - 0) (λ j lt. object_weight-few h legal x j (omega (arith, lt, le))),
    )

-- and on all objects
pub all_span-few : (h : History) → IsLegalHistory h → (p : ℕ) → p ≤ length h.sets → span h [] Everything 0 p ≤ greatest_weight * p
all_span-few h legal p le =
    omega (
      arith,
      sum_from-few (weight h [] Everything) greatest_weight 0 (p - 0) (λ j lt. all_weight-few h legal j (omega (arith, lt, le))),
    )

-- and the spans from one place to another
pub object_part-few : (h : History) → IsLegalHistory h → (x a b : ℕ) → a ≤ b → b ≤ length h.sets → length h.sets ≤ most_updates
    → object_span h x a b ≤ most_updates * greatest_distance
object_part-few h legal x a b forward last few = omega (arith, object_span-add h x a b forward, object_span-few h legal x b last)

pub all_part-few : (h : History) → IsLegalHistory h → (a b : ℕ) → a ≤ b → b ≤ length h.sets → length h.sets ≤ most_updates
    → span h [] Everything a b ≤ most_updates * greatest_weight
all_part-few h legal a b forward last few = omega (arith, span-add h [] Everything a b forward, all_span-few h legal b last)
