-- Moves: what the changes of a set make of their objects.
use Rattle.std.specs.Prelude.{List, map}
use Rattle.ordup_objects.specs.declared.change.Change.{Change}
use Rattle.ordup_objects.specs.declared.moved.Moved.{Moved}
use Rattle.ordup_objects.specs.States.{State, result_at}
use Rattle.ordup_objects.specs.Weights.{distance_by}

-- what a change makes of its object, in the state before the set
abbrev pub moved_by : State → Change → Moved
moved_by v c = record { object = c.object; value = result_at v c; distance = distance_by v c }

-- what the changes of a set make of their objects, in the order of the changes
abbrev pub moves_of : State → List Change → List Moved
moves_of v m = map (moved_by v) m
