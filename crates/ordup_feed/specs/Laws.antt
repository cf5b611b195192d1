-- What the two rules say of a feed between any two steps.
use Rattle.std.specs.Prelude.{◌≡◌, ℕ, ◌≤◌, List, [], ◌∷◌, length, take}
use Rattle.ordup_objects.specs.States.{State}
use Rattle.ordup_feed.specs.declared.queue.View.TheVariants.{Sender, Taker}
use Rattle.ordup_feed.specs.declared.counter.CounterView.TheVariants.{Known, Told}
use Rattle.ordup_feed.specs.Parcels.{PlainParcel, AreInOrder}
use Rattle.ordup_feed.specs.QueueRule.{QueueHolds}
use Rattle.ordup_feed.specs.CounterRule.{CounterHolds}

-- what was taken is a prefix of what was pushed, from the same initial state, and in order
abbrev pub TakenIsAPrefixOfPushed : Type 0
TakenIsAPrefixOfPushed =
    (items : List PlainParcel) (start begun : State) (pushed taken : List PlainParcel)
    → QueueHolds items (Sender start pushed ∷ Taker begun taken ∷ [])
    → (begun ≡ start) × (taken ≡ take (length taken) pushed) × AreInOrder start taken

-- the sender knows at most what the taker told
abbrev pub KnownIsAtMostTold : Type 0
KnownIsAtMostTold = (counter : List ℕ) (known told : ℕ) → CounterHolds counter (Known known ∷ Told told ∷ []) → known ≤ told
