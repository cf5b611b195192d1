-- What contracts see of the two ends of a feed.
use Rattle.std.specs.Prelude.{◌≡◌, ℕ, List, []}
use denote.RawPtr.{Ptr}
use Rattle.atomic_table.specs.Seated.{TableId}
use Rattle.ordup_objects.specs.States.{State}
use Rattle.ordup_feed.specs.Parcels.{PlainParcel}

-- Which feed it is: by what it shares with no other, which are tables, or places in memory and their names; and its capacity.
pub record FeedId : Type 0 where
  pub tables : List TableId
  pub places : List Ptr
  pub names : List ℕ
  pub capacity : ℕ

-- the sender's end: the feed, the initial state, what was pushed, and the number that it knows
pub record Sending : Type 0 where
  pub feed : FeedId
  pub start : State
  pub pushed : List PlainParcel
  pub known : ℕ

-- the taker's end: the feed, the initial state, what was taken, and the number that it told
pub record Taking : Type 0 where
  pub feed : FeedId
  pub start : State
  pub taken : List PlainParcel
  pub told : ℕ

-- the two ends of a feed that can hold this many parcels, through which none went yet
pub record AreNewEnds (start : State) (capacity : ℕ) (s : Sending) (t : Taking) : Type 0 where
  pub sender : s ≡ record { feed = s.feed; start = start; pushed = []; known = 0 }
  pub taker : t ≡ record { feed = s.feed; start = start; taken = []; told = 0 }
  pub holds : s.feed.capacity ≡ capacity
