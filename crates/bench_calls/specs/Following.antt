-- Parcels that may follow any others.
use Rattle.std.specs.Prelude.{◌≡◌, ℕ, ◌+◌, pos, List, [], ◌∷◌, length}
use Rattle.ordup_objects.specs.declared.change.Change.{Change}
use Rattle.ordup_objects.specs.declared.change.Op.TheVariants.{Set}
use Rattle.ordup_objects.specs.States.{State}
use Rattle.ordup_objects.specs.Sets.{AreKnown}
use Rattle.ordup_feed.specs.Parcels.{PlainParcel, IsNext}

-- the set that sets the first object to 1
abbrev pub first_to_one : List Change
first_to_one = record { object = 0; op = Set (pos 1) } ∷ []

-- the parcel is the next one of any others, over objects among which are those of its set, where it has the next number
abbrev pub FollowsAny : ℕ → PlainParcel → Type 0
FollowsAny number p =
    (start : State) (before : List PlainParcel) → AreKnown (length start) p.set → number ≡ length before + 1 → IsNext start before p
