-- Marks: what the updates up to a place weigh on each object.
use Rattle.std.specs.Prelude.{◌≡◌, ℕ, ◌<◌, ◌≤◌, List, length, slice_index_or}
use Rattle.ordup_objects.specs.declared.change.Change.{Change}
use Rattle.ordup_objects.specs.Serial.{History, with_more}
use Rattle.ordup_objects.specs.Weights.{object_span}

-- the mark of an object
abbrev pub mark_at : List ℕ → ℕ → ℕ
mark_at marks x = slice_index_or marks x 0

-- the marks of a place: for each object that has a mark, the weight on it of the updates up to the place
abbrev pub AreMarks : History → ℕ → List ℕ → Type 0
AreMarks h place marks = (x : ℕ) → x < length marks → mark_at marks x ≡ object_span h x 0 place

-- the marks of a place of a history are those of the same place of each longer one
abbrev pub LongerHistoriesKeepMarks : Type 0
LongerHistoriesKeepMarks =
    (h : History) (place : ℕ) (marks : List ℕ) (more : List (List Change)) → place ≤ length h.sets →
    AreMarks h place marks → AreMarks (with_more h more) place marks
