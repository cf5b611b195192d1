-- The moves of the updates of a history, one after the other, and how far they move an object.
use Rattle.std.specs.Prelude.{ℕ, zero, suc, ◌==◌, if◌then◌else◌, List, [], ◌++◌, slice_index_or}
use Rattle.ordup_objects.specs.declared.moved.Moved.{Moved}
use Rattle.ordup_objects.specs.Serial.{History, serial}
use Rattle.ordup_objects.specs.Moves.{moves_of}

-- the moves of the first k updates
abbrev pub moves_below : History → ℕ → List Moved
moves_below h zero = []
moves_below h (suc k) = moves_below h k ++ moves_of (serial h k) (slice_index_or h.sets k [])

-- how far a move moves an object: by its distance, where it is on the object
abbrev pub distance_on : ℕ → Moved → ℕ
distance_on x m = if m.object == x then m.distance else 0

-- how far a move moves its object
abbrev pub distance_of : Moved → ℕ
distance_of m = m.distance
