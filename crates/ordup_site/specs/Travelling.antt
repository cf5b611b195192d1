-- How a set adds to what values travelled.
use Rattle.std.specs.Prelude.{◌≡◌, ℕ, ◌+◌, ◌≤◌, List, [], ◌∷◌, length, slice_index_or, slice_set}
use Rattle.ordup_objects.specs.declared.change.Change.{Change}
use Rattle.ordup_objects.specs.Sizes.{greatest_distance}
use Rattle.ordup_objects.specs.States.{State, value_at, after}
use Rattle.ordup_objects.specs.Weights.{distance, distance_by}

-- a set moved the values from v to w, and each of them travelled as far as it moved
pub record Moves (m : List Change) (v : State) (ts : List ℕ) (w : State) (us : List ℕ) : Type 0 where
  pub values : w ≡ after m v
  pub objects : length w ≡ length v
  pub travelled : (x : ℕ) → slice_index_or us x 0 ≡ slice_index_or ts x 0 + distance (value_at w x) (value_at v x)
  pub few : (x : ℕ) → distance (value_at w x) (value_at v x) ≤ greatest_distance
  pub count : length us ≡ length ts

-- each changed object travelled on, as far as its change moves it
abbrev pub travelled_on : State → List Change → List ℕ → List ℕ
travelled_on v [] ts = ts
travelled_on v (c ∷ m) ts = travelled_on v m (slice_set ts c.object (slice_index_or ts c.object 0 + distance_by v c))
