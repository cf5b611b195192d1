-- Serial results.
use Rattle.std.specs.Prelude.{◌≡◌, ℕ, ◌-◌, ◌<◌, ◌≤◌, true, List, [], ◌∷◌}
use Rattle.std.specs.Prelude.{◌++◌, length, take, slice_index_or, All, fold, ℤ}
use Rattle.ordup_objects.specs.declared.change.Change.{Change}
use Rattle.ordup_objects.specs.States.{State, is_legal, after, IsState}
use Rattle.ordup_objects.specs.Sets.{IsSet, AreKnown}

-- the initial state, and the message sets in their order
pub record History : Type 0 where
  pub start : List ℤ
  pub sets : List (List Change)

-- the serial result: the state after the first j updates
abbrev pub serial : History → ℕ → State
serial h j = fold (λ v m. after m v) h.start (take j h.sets)

-- the set of the update with this number, from 1
abbrev pub set_at : History → ℕ → List Change
set_at h k = slice_index_or h.sets (k - 1) []

-- a history with more updates after its own
abbrev pub with_more : History → List (List Change) → History
with_more h more = record { start = h.start; sets = h.sets ++ more }

-- a history with one update more
abbrev pub with_update : History → List Change → History
with_update h m = with_more h (m ∷ [])

-- updates that are added later leave the serial results as they were
abbrev pub LongerHistoriesKeepSerialResults : Type 0
LongerHistoriesKeepSerialResults =
    (h : History) (more : List (List Change)) (j : ℕ) → j ≤ length h.sets → serial (with_more h more) j ≡ serial h j

-- each update is a message set on objects that are there, and legal on the serial result before it
pub record IsLegalHistory (h : History) : Type 0 where
  pub start : IsState h.start
  pub sets : All IsSet h.sets
  pub known : All (AreKnown (length h.start)) h.sets
  pub legal : (k : ℕ) → k < length h.sets → is_legal (slice_index_or h.sets k []) (serial h k) ≡ true

-- the history of the first j updates
abbrev pub prefix_of : History → ℕ → History
prefix_of h j = record { start = h.start; sets = take j h.sets }

-- a prefix of a legal history is legal
abbrev pub PrefixesOfLegalHistoriesAreLegal : Type 0
PrefixesOfLegalHistoriesAreLegal = (h : History) (j : ℕ) → IsLegalHistory h → IsLegalHistory (prefix_of h j)
