-- Hands, counts and outcomes, worked out by hand: no definition can change its meaning unseen.
use Rattle.std.proofs.Common.{◌≡◌, ℕ, List, [], ◌∷◌, refl, arith}
use Rattle.std.specs.Prelude.{Ok, Err, Some, None, Vec, length, slice_get}
use Rattle.ordup_objects.specs.declared.refusal.Refusal.TheVariants.{NotYet, NoMemory, Stopped, OutOfRange, LogFull, UnknownObject}
use Rattle.ordup_cluster.specs.Clusters.{ClusterState}
use Rattle.ordup_plan.specs.declared.tally.Tally.{Tally}
use Rattle.ordup_plan.specs.Counting.{counted_by, total}
use Rattle.ordup_plan.specs.Dealing.{AreDealt}
use Rattle.ordup_plan.specs.Outcomes.{IsOutcome}

-- ---- five sets, dealt to two callers

module _ {A : Type 0} (first second : Vec ℕ A) (dealt : AreDealt 2 (11 ∷ 12 ∷ 13 ∷ 14 ∷ 15 ∷ []) (first ∷ second ∷ [])) where
  first-hand : (slice_get first.items 0 ≡ Some 11) × (slice_get first.items 1 ≡ Some 13) × (slice_get first.items 2 ≡ Some 15)
      × (slice_get first.items 3 ≡ None)
  first-hand = (dealt.each 0 0 first refl, dealt.each 0 1 first refl, dealt.each 0 2 first refl, dealt.each 0 3 first refl)

  second-hand : (slice_get second.items 0 ≡ Some 12) × (slice_get second.items 1 ≡ Some 14) × (slice_get second.items 2 ≡ None)
  second-hand = (dealt.each 1 0 second refl, dealt.each 1 1 second refl, dealt.each 1 2 second refl)

-- no hand is missing
dealt-to-three : {A : Type 0} (hand : Vec ℕ A) → AreDealt 3 (11 ∷ []) (hand ∷ []) → ⊥
dealt-to-three hand dealt = absurd (let count : 1 ≡ 3 = dealt.count in omega arith)

-- ---- answers that are counted

-- two proposals were refused, and three are pending
abbrev some : Tally
some = record { refused = 2; pending = 3 }

counts : (counted_by some (Ok 7) ≡ Some some) × (counted_by some (Err (NotYet 7)) ≡ Some (record { refused = 2; pending = 4 }))
    × (counted_by some (Err OutOfRange) ≡ Some (record { refused = 3; pending = 3 }))
    × (counted_by some (Err LogFull) ≡ Some (record { refused = 3; pending = 3 }))
    × (counted_by some (Err UnknownObject) ≡ Some (record { refused = 3; pending = 3 }))
    × (counted_by some (Err NoMemory) ≡ None) × (counted_by some (Err Stopped) ≡ None)
counts = (refl, refl, refl, refl, refl, refl, refl)

totals : (total (Some some ∷ Some (record { refused = 10; pending = 20 }) ∷ []) ≡ Some (record { refused = 12; pending = 23 }))
    × (total (Some some ∷ None ∷ []) ≡ None)
totals = (refl, refl)

-- ---- outcomes

-- an outcome of no sets has no update, none refused and none pending
module _ (opened : ClusterState) (text : List ℕ) (outcome : IsOutcome opened 0 text) where
  nothing : (length outcome.closed.primary.log.sets ≡ 0) × (outcome.refused ≡ 0) × (outcome.pending ≡ 0)
  nothing = let few = outcome.few in let updates = outcome.updates in (omega arith, omega arith, omega arith)
