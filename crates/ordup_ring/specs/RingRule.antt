-- The rule of a feed's ring: the initial state comes first, and then parcels, each the next one after those before it.
use Rattle.std.specs.Prelude.{◌≡◌, ◌+◌, ◌<◌, List, [], ◌∷◌, length}
use Rattle.ordup_objects.specs.States.{State, IsState}
use Rattle.ordup_ring.specs.declared.ring.Item.{Item}
use Rattle.ordup_ring.specs.declared.ring.Item.TheVariants.{Start, Next}
use Rattle.ordup_feed.specs.Parcels.{PlainParcel, IsNext}

-- the initial state that went through a ring
abbrev pub start_in : List Item → State
start_in [] = []
start_in (Start v ∷ items) = v
start_in (Next p ∷ items) = []

-- the parcels that went through a ring
abbrev pub parcels_in : List Item → List PlainParcel
parcels_in [] = []
parcels_in (Start v ∷ items) = parcels_in items
parcels_in (Next p ∷ items) = p ∷ parcels_in items

-- what may come after these
abbrev pub MayCome : List Item → Item → Type 0
MayCome before (Start v) = (before ≡ []) × IsState v
MayCome before (Next p) = (0 < length before) × IsNext (start_in before) (parcels_in before) p

-- all but the first are parcels
abbrev pub IsRun : List Item → Type 0
IsRun items = length items ≡ length (parcels_in items) + 1
