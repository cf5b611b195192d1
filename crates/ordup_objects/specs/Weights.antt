-- Weights on one object: the distance that its value travels.
use Rattle.std.specs.Prelude.{◌≡◌, ℕ, suc, ◌-◌, ◌≤◌, ℤ, ◌-ℤ◌, List}
use Rattle.std.specs.Prelude.{[], ◌∷◌, length, ◌==◌, map, if◌then◌else◌}
use Rattle.std.specs.Int.RustNames.{unsigned_abs}
use Rattle.ordup_objects.specs.declared.change.Change.{Change}
use Rattle.ordup_objects.specs.Sums.{sum_from}
use Rattle.ordup_objects.specs.States.{State, value_at, result_at}
use Rattle.ordup_objects.specs.Serial.{History, serial, with_more}

-- how far apart two values are
abbrev pub distance : ℤ → ℤ → ℕ
distance a b = unsigned_abs (a -ℤ b)

-- the weight on an object of the update after the first j
abbrev pub object_weight : History → ℕ → ℕ → ℕ
object_weight h x j = distance (value_at (serial h (suc j)) x) (value_at (serial h j) x)

-- the weight on an object of the span from a to b: the sum over the places a + 1 to b
abbrev pub object_span : History → ℕ → ℕ → ℕ → ℕ
object_span h x a b = sum_from (object_weight h x) a (b - a)

-- a value moves by no more than the span between weighs
abbrev pub ValuesMoveByTheirWeights : Type 0
ValuesMoveByTheirWeights =
    (h : History) (x a b : ℕ) → a ≤ b → distance (value_at (serial h b) x) (value_at (serial h a) x) ≤ object_span h x a b

-- updates that are added later leave the weights of spans as they were
abbrev pub LongerHistoriesKeepObjectSpans : Type 0
LongerHistoriesKeepObjectSpans =
    (h : History) (more : List (List Change)) (x a b : ℕ) → b ≤ length h.sets
    → object_span (with_more h more) x a b ≡ object_span h x a b

-- how far a change moves its object's value
abbrev pub distance_by : State → Change → ℕ
distance_by v c = distance (result_at v c) (value_at v c.object)

-- how far each change of a set moves its object's value
abbrev pub distances_of : State → List Change → List ℕ
distances_of v m = map (distance_by v) m

-- the number beside the change of an object, 0 where it has none
abbrev pub distance_beside : List Change → List ℕ → ℕ → ℕ
distance_beside [] ds x = 0
distance_beside (c ∷ m) [] x = 0
distance_beside (c ∷ m) (d ∷ ds) x = if c.object == x then d else distance_beside m ds x
