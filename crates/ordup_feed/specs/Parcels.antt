-- The parcels that went through a feed.
use Rattle.std.specs.Prelude.{◌≡◌, ℕ, ◌+◌, ◌<◌, ◌≤◌, ◌==◌, ◌||◌, if◌then◌else◌, nat_lt}
use Rattle.std.specs.Prelude.{Option, Some, None, List, length, map, slice_index_or}
use Rattle.std.specs.Global.{Global}
use Rattle.ordup_objects.specs.declared.refusal.Refusal.{Refusal}
use Rattle.ordup_objects.specs.declared.refusal.Refusal.TheVariants.{OutOfRange}
use Rattle.ordup_objects.specs.Sizes.{most_updates, greatest_capacity}
use Rattle.ordup_objects.specs.States.{State}
use Rattle.ordup_objects.specs.Serial.{History, IsLegalHistory}
use Rattle.ordup_primary.specs.declared.parcel.Parcel.{Parcel}
use Rattle.ordup_primary.specs.Parcels.{MayFollow}

-- why a feed of this capacity is refused, if it is
abbrev pub feed_refusal : ℕ → Option Refusal
feed_refusal capacity = if capacity == 0 || nat_lt greatest_capacity capacity then Some OutOfRange else None

-- a parcel as a plain value: a number and a list of changes
abbrev pub PlainParcel : Type 0
PlainParcel = Parcel Global

-- the sets of these parcels, over an initial state
abbrev pub history_of : State → List PlainParcel → History
history_of start parcels = record { start = start; sets = map (λ p. p.set) parcels }

-- The parcels are numbered 1, 2, 3 and so on, up to 1,000,000 at most, and each set is legal after those before it.
pub record AreInOrder (start : State) (parcels : List PlainParcel) : Type 0 where
  pub numbers : (i : ℕ) (d : PlainParcel) → i < length parcels → (slice_index_or parcels i d).number ≡ i + 1
  pub few : length parcels ≤ most_updates
  pub legal : IsLegalHistory (history_of start parcels)

-- the parcel is the next one after these
abbrev pub IsNext : State → List PlainParcel → PlainParcel → Type 0
IsNext start parcels p = MayFollow (history_of start parcels) p.number p.set
