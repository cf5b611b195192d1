-- The rule of a feed's queue. The sender's view is the initial state and what was pushed, the taker's the initial state and what
-- was taken. It speaks of parcels as plain values, each a number and a list of changes.
use Rattle.std.specs.Prelude.{◌≡◌, List, [], ◌∷◌, ◌++◌}
use Rattle.ordup_objects.specs.States.{State}
use Rattle.ordup_feed.specs.declared.queue.View.{View}
use Rattle.ordup_feed.specs.declared.queue.View.TheVariants.{Whole, Sender, Taker}
use Rattle.ordup_feed.specs.Parcels.{PlainParcel, AreInOrder}

-- What holds between any two steps: what was pushed is what was taken, followed by what the queue holds; and it is in order.
abbrev pub QueueHolds : List PlainParcel → List View → Type 0
QueueHolds items (Whole ∷ []) = items ≡ []
QueueHolds items (Sender start pushed ∷ Taker begun taken ∷ []) = (begun ≡ start) × (pushed ≡ taken ++ items) × AreInOrder start pushed
QueueHolds items views = ⊥

-- the initial state of a view
abbrev pub start_of : View → State
start_of Whole = []
start_of (Sender start pushed) = start
start_of (Taker start taken) = start

-- the parcels of a view
abbrev pub parcels_of : View → List PlainParcel
parcels_of Whole = []
parcels_of (Sender start pushed) = pushed
parcels_of (Taker start taken) = taken

abbrev pub IsSender : View → Type 0
IsSender v = v ≡ Sender (start_of v) (parcels_of v)

abbrev pub IsTaker : View → Type 0
IsTaker v = v ≡ Taker (start_of v) (parcels_of v)

-- push taken: the parcel goes last
abbrev pub Pushed : View → PlainParcel → View → Type 0
Pushed v x w = w ≡ Sender (start_of v) (parcels_of v ++ x ∷ [])

-- pop taken: the parcel goes last, and what was taken is in order with it
abbrev pub Popped : View → PlainParcel → View → Type 0
Popped v x w = (w ≡ Taker (start_of v) (parcels_of v ++ x ∷ [])) × AreInOrder (start_of v) (parcels_of v ++ x ∷ [])

-- push refused full: what the queue holds are the last of the parcels that were pushed
abbrev pub IsBackOfPushed : View → List PlainParcel → Type 0
IsBackOfPushed v items = (taken : List PlainParcel) × (parcels_of v ≡ taken ++ items)
