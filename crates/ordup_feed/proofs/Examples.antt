-- The two rules at a feed of two parcels, worked out by hand: no definition can change its meaning unseen.
use Rattle.std.proofs.Common.{◌≡◌, ℕ, List, [], ◌∷◌, pos, ℤ, get_or, refl, ap, arith}
use Rattle.std.specs.Prelude.{Some, None, IfSome, All}
use Rattle.std.proofs.lemmas.List.Elements.{All-nil, All-cons}
use Rattle.ordup_objects.specs.declared.change.Change.{Change}
use Rattle.ordup_objects.specs.declared.change.Op.TheVariants.{Add}
use Rattle.ordup_objects.specs.declared.refusal.Refusal.TheVariants.{OutOfRange}
use Rattle.ordup_objects.specs.Ops.{number_of}
use Rattle.ordup_objects.specs.States.{State, IsInRange}
use Rattle.ordup_objects.specs.Sets.{IsSet, IsKnown, AreKnown}
use Rattle.ordup_feed.specs.declared.queue.View.TheVariants.{Sender, Taker}
use Rattle.ordup_feed.specs.declared.counter.CounterView.TheVariants.{Known, Told}
use Rattle.ordup_feed.specs.Parcels.{PlainParcel, AreInOrder, IsNext, feed_refusal}
use Rattle.ordup_feed.specs.QueueRule.{QueueHolds, Pushed, Popped}
use Rattle.ordup_feed.specs.CounterRule.{CounterHolds, Tells, Looks}
use Rattle.ordup_feed.proofs.ParcelLemmas.{in-order-push}

-- one object at 0
abbrev start : State
start = pos 0 ∷ []

-- a parcel that adds to it
abbrev adding : ℕ → ℤ → PlainParcel
adding number n = record { number = number; set = (record { object = 0; op = Add n }) ∷ [] }

-- parcel 1 adds 3, parcel 2 adds 4
abbrev one : PlainParcel
one = adding 1 (pos 3)

abbrev two : PlainParcel
two = adding 2 (pos 4)

-- a list of just one thing
just : {X : Type 0} (P : X → Type 0) (x : X) → P x → All P (x ∷ [])
just P x px = All-cons P x [] px (All-nil P)

is_set : (number : ℕ) (n : ℤ) → IsInRange n → IsSet (adding number n).set
is_set number n range = record {
  some = omega arith;
  few = omega arith;
  numbers = just (λ (c : Change). IfSome (number_of c.op) IsInRange) (record { object = 0; op = Add n }) range;
  distinct = refl;
}

known : (number : ℕ) (n : ℤ) → AreKnown 1 (adding number n).set
known number n = just (IsKnown 1) (record { object = 0; op = Add n }) (omega arith, tt)

none-in-order : AreInOrder start []
none-in-order = record {
  numbers = λ i d lt. absurd (omega arith);
  few = omega arith;
  legal = record {
    start = just IsInRange (pos 0) (omega arith);
    sets = All-nil IsSet;
    known = All-nil (AreKnown 1);
    legal = λ k lt. absurd (omega arith);
  };
}

-- one is the next of none, and two is the next of one; one is not the next of itself, nor is two the next of none
one-is-next : IsNext start [] one
one-is-next = record { next = refl; few = omega arith; known = known 1 (pos 3); legal = refl }

two-is-next : IsNext start (one ∷ []) two
two-is-next = record { next = refl; few = omega arith; known = known 2 (pos 4); legal = refl }

one-comes-once : IsNext start (one ∷ []) one → ⊥
one-comes-once is = let number = is.next in absurd (omega (arith, number))

two-comes-later : IsNext start [] two → ⊥
two-comes-later is = let number = is.next in absurd (omega (arith, number))

-- what takes the object out of range is next nowhere, nor is what changes an object that is not there
too-far : IsNext start (one ∷ []) (adding 2 (pos 999999998)) → ⊥
too-far is = absurd (let legal = is.legal in cc)

one-in-order : AreInOrder start (one ∷ [])
one-in-order = in-order-push start [] one none-in-order one-is-next (is_set 1 (pos 3) (omega arith))

both-in-order : AreInOrder start (one ∷ two ∷ [])
both-in-order = in-order-push start (one ∷ []) two one-in-order two-is-next (is_set 2 (pos 4) (omega arith))

-- Both were pushed and one was taken, so the queue holds two, and nothing else.
between : QueueHolds (two ∷ []) (Sender start (one ∷ two ∷ []) ∷ Taker start (one ∷ []) ∷ [])
between = (refl, refl, both-in-order)

nothing-is-lost : QueueHolds [] (Sender start (one ∷ two ∷ []) ∷ Taker start (one ∷ []) ∷ []) → ⊥
nothing-is-lost h = absurd (let parts = h.1 in cc)

nothing-is-made : QueueHolds (two ∷ []) (Sender start (one ∷ []) ∷ Taker start (one ∷ []) ∷ []) → ⊥
nothing-is-made h = absurd (let parts = h.1 in cc)

the-order-stays : QueueHolds (one ∷ []) (Sender start (one ∷ two ∷ []) ∷ Taker start (two ∷ []) ∷ []) → ⊥
the-order-stays h =
    let number : 1 ≡ 2 = ap (λ (ps : List PlainParcel). (get_or ps 0 one).number) h.1 in absurd (omega (arith, number))

-- there are just two passes
no-third-pass : QueueHolds [] (Sender start [] ∷ Taker start [] ∷ Taker start [] ∷ []) → ⊥
no-third-pass h = h

-- the steps: two is pushed behind one, and one is taken
pushed : Pushed (Sender start (one ∷ [])) two (Sender start (one ∷ two ∷ []))
pushed = refl

popped : Popped (Taker start []) one (Taker start (one ∷ []))
popped = (refl, one-in-order)

-- 2 was told: the sender may know 1 or 2, and not 3; and the counter is 2
knows-less : CounterHolds (2 ∷ []) (Known 1 ∷ Told 2 ∷ [])
knows-less = (refl, omega arith)

knows-all : CounterHolds (2 ∷ []) (Known 2 ∷ Told 2 ∷ [])
knows-all = (refl, omega arith)

knows-no-more : CounterHolds (2 ∷ []) (Known 3 ∷ Told 2 ∷ []) → ⊥
knows-no-more h = let knows = h.1 in absurd (omega (arith, knows))

counter-is-told : CounterHolds (1 ∷ []) (Known 1 ∷ Told 2 ∷ []) → ⊥
counter-is-told h = let counter = h.0 in absurd (omega (arith, counter))

-- the steps: 2 is told after 1, and looked at; 1 is not told after 2, nor is less known than before
told : Tells (Told 1) (1 ∷ []) (2 ∷ []) (Told 2)
told = (refl, omega arith)

told-no-less : Tells (Told 2) (2 ∷ []) (1 ∷ []) (Told 1) → ⊥
told-no-less h = let risen = h.1 in absurd (omega (arith, risen))

looked : Looks (Known 1) (2 ∷ []) (2 ∷ []) (Known 2)
looked = (refl, omega arith)

-- capacities are from 1 to 1,024
capacities : (feed_refusal 0 ≡ Some OutOfRange)
    × (feed_refusal 1 ≡ None)
    × (feed_refusal 1024 ≡ None)
    × (feed_refusal 1025 ≡ Some OutOfRange)
capacities = (refl, refl, refl, refl)
