-- The rule of a feed's counter. The sender's view is the number that it knows, the taker's the number that it told. It speaks of
-- numbers alone.
use Rattle.std.specs.Prelude.{◌≡◌, ℕ, ◌≤◌, List, [], ◌∷◌, slice_index}
use Rattle.ordup_feed.specs.declared.counter.CounterView.{CounterView}
use Rattle.ordup_feed.specs.declared.counter.CounterView.TheVariants.{Both, Known, Told}

-- What holds between any two steps: the counter is what was told, and the sender knows no more.
abbrev pub CounterHolds : List ℕ → List CounterView → Type 0
CounterHolds counter (Both ∷ []) = slice_index counter 0 ≡ 0
CounterHolds counter (Known known ∷ Told told ∷ []) = (slice_index counter 0 ≡ told) × (known ≤ told)
CounterHolds counter views = ⊥

-- the number of a view
abbrev pub number_of : CounterView → ℕ
number_of Both = 0
number_of (Known known) = known
number_of (Told told) = told

abbrev pub IsKnown : CounterView → Type 0
IsKnown v = v ≡ Known (number_of v)

abbrev pub IsTold : CounterView → Type 0
IsTold v = v ≡ Told (number_of v)

-- tell: the taker told the counter as it is now, which is no lower
abbrev pub Tells : CounterView → List ℕ → List ℕ → CounterView → Type 0
Tells v before after w = (w ≡ Told (slice_index after 0)) × (number_of v ≤ slice_index after 0)

-- look: the sender knows the counter, which is no lower than what it knew
abbrev pub Looks : CounterView → List ℕ → List ℕ → CounterView → Type 0
Looks v before after w = (w ≡ Known (slice_index after 0)) × (number_of v ≤ slice_index after 0)
