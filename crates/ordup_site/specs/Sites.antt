-- What a site holds, and which updates it applied.
use Rattle.std.specs.Prelude.{◌≡◌, ℕ, ◌≤◌, true, List, length, slice_index_or, ℤ}
use Rattle.ordup_objects.specs.declared.change.Change.{Change}
use Rattle.ordup_objects.specs.declared.moved.Moved.{Moved}
use Rattle.ordup_objects.specs.States.{State, is_legal}
use Rattle.ordup_objects.specs.Sets.{IsSet, AreKnown}
use Rattle.ordup_objects.specs.Serial.{History, serial, with_more}
use Rattle.ordup_objects.specs.Weights.{object_span}
use Rattle.ordup_objects.specs.Moves.{moves_of}

-- how many updates a site applied, the value of each object, and how far each value travelled
pub record SiteState : Type 0 where
  pub applied : ℕ
  pub values : List ℤ
  pub travelled : List ℕ

-- how far the value of an object travelled
abbrev pub travelled_at : SiteState → ℕ → ℕ
travelled_at s x = slice_index_or s.travelled x 0

-- the site applied the first j updates of a history and no others: it holds their serial result, and each value travelled their
-- weight on its object
pub record HasApplied (s : SiteState) (h : History) (j : ℕ) : Type 0 where
  pub within : j ≤ length h.sets
  pub applied : s.applied ≡ j
  pub values : s.values ≡ serial h j
  pub travelled : (x : ℕ) → travelled_at s x ≡ object_span h x 0 j

-- a site holds the serial result of a prefix of the log: it applied what it reported, and no more than was sent to it
pub record HoldsPrefix (log : History) (report last_sent : ℕ) (s : SiteState) : Type 0 where
  pub reported : report ≤ s.applied
  pub applied : s.applied ≤ last_sent
  pub sent : last_sent ≤ length log.sets
  pub prefix : HasApplied s log s.applied

-- the moves of a set on these values, on which it is legal: its objects are there, and no two of its changes are of one object
pub record AreMovesOf (v : State) (m : List Change) (moved : List Moved) : Type 0 where
  pub set : IsSet m
  pub known : AreKnown (length v) m
  pub legal : is_legal m v ≡ true
  pub moves : moved ≡ moves_of v m

-- what a site applied of a history it applied of each longer one
abbrev pub LongerHistoriesKeepWhatWasApplied : Type 0
LongerHistoriesKeepWhatWasApplied =
    (s : SiteState) (h : History) (j : ℕ) (more : List (List Change)) → HasApplied s h j → HasApplied s (with_more h more) j
