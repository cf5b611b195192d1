-- Parcels of the tests, which may follow any others.
use Rattle.std.specs.Prelude.{◌≡◌, ℕ, ◌+◌, ◌<◌, List, length}
use Rattle.ordup_objects.specs.States.{State}
use Rattle.ordup_objects.specs.Serial.{prefix_of}
use Rattle.ordup_primary.specs.Primaries.{PrimaryState, progress_at}
use Rattle.ordup_feed.specs.Parcels.{PlainParcel, IsNext, history_of}
use Rattle.ordup_feed.specs.Ends.{Sending}

-- the parcel is the next one of any others, over this many objects, where it has the next number
abbrev pub FollowsAny : ℕ → ℕ → PlainParcel → Type 0
FollowsAny objects number p =
    (start : State) (before : List PlainParcel) → length start ≡ objects → number ≡ length before + 1 → IsNext start before p

-- the primary has a site, and what was pushed are the updates that were sent to its first one
pub record HasPushed (p : PrimaryState) (end : Sending) : Type 0 where
  pub site : 0 < length p.sites
  pub sent : history_of end.start end.pushed ≡ prefix_of p.log (progress_at p 0).sent
