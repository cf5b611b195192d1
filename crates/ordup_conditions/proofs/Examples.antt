-- The definitions at small numbers, worked out by hand: no definition can change its meaning unseen.
use Rattle.std.proofs.Common.{◌≡◌, ℕ, ℤ, pos, true, false, map, List, [], ◌∷◌, refl}
use Rattle.std.specs.Prelude.{neg_ℤ, Some, None}
use Rattle.ordup_objects.specs.declared.change.Change.{Change}
use Rattle.ordup_objects.specs.declared.change.Op.{Op}
use Rattle.ordup_objects.specs.declared.change.Op.TheVariants.{Add, Take}
use Rattle.ordup_objects.specs.declared.refusal.Refusal.TheVariants.{UnknownObject}
use Rattle.ordup_objects.specs.States.{State, after}
use Rattle.ordup_conditions.specs.declared.condition.Bound.{Bound}
use Rattle.ordup_conditions.specs.declared.condition.Bound.TheVariants.{AtLeast, AtMost}
use Rattle.ordup_conditions.specs.declared.condition.Condition.{Condition}
use Rattle.ordup_conditions.specs.Conditions.{keeps_bound, first_unmet, condition_refusal}

-- of -4, -3 and -2 the last two are at least -3, and the first two at most -3
abbrev values : List ℤ
values = neg_ℤ (pos 4) ∷ neg_ℤ (pos 3) ∷ neg_ℤ (pos 2) ∷ []

bounds : (map (λ z. keeps_bound z (AtLeast (neg_ℤ (pos 3)))) values ≡ false ∷ true ∷ true ∷ [])
    × (map (λ z. keeps_bound z (AtMost (neg_ℤ (pos 3)))) values ≡ true ∷ true ∷ false ∷ [])
bounds = (refl, refl)

abbrev change : ℕ → Op → Change
change x op = record { object = x; op = op }

abbrev must : ℕ → Bound → Condition
must x bound = record { object = x; bound = bound }

-- a clerk sells n bags of the object 0
abbrev sale : ℕ → List Change
sale n = change 0 (Add (neg_ℤ (pos n))) ∷ []

-- there are 3 bags, of which none may be missing
abbrev stock : State
stock = pos 3 ∷ []

abbrev none_missing : List Condition
none_missing = must 0 (AtLeast (pos 0)) ∷ []

-- one clerk may sell 2 bags, or another one 3, but not one after the other: 1 - 3 is -2
clerks : (first_unmet (after (sale 2) stock) none_missing ≡ None) × (first_unmet (after (sale 3) stock) none_missing ≡ None)
    × (first_unmet (after (sale 3) (after (sale 2) stock)) none_missing ≡ Some 0)
clerks = (refl, refl, refl)

-- 1 is added to the first of 5, 7 and 9: 6 is not at most 5, and 9 is not at most 8; of the two the second condition comes first
abbrev of_three : List Condition
of_three = must 0 (AtLeast (pos 6)) ∷ must 0 (AtMost (pos 5)) ∷ must 1 (AtLeast (pos 7)) ∷ must 2 (AtMost (pos 8)) ∷ []

first : first_unmet (after (change 0 (Add (pos 1)) ∷ []) (pos 5 ∷ pos 7 ∷ pos 9 ∷ [])) of_three ≡ Some 1
first = refl

-- where 2 and 8 swap, the first comes to 8 and the second to 2
abbrev swapped : State
swapped = after (change 0 (Take 1) ∷ change 1 (Take 0) ∷ []) (pos 2 ∷ pos 8 ∷ [])

swap : (first_unmet swapped (must 0 (AtLeast (pos 8)) ∷ must 1 (AtMost (pos 2)) ∷ []) ≡ None)
    × (first_unmet swapped (must 0 (AtLeast (pos 9)) ∷ must 1 (AtMost (pos 2)) ∷ []) ≡ Some 0)
    × (first_unmet swapped [] ≡ None)
swap = (refl, refl, refl)

-- of two objects the last has the index 1
refusals : (condition_refusal 2 (must 0 (AtMost (pos 1)) ∷ must 1 (AtMost (pos 1)) ∷ []) ≡ None)
    × (condition_refusal 2 (must 0 (AtMost (pos 1)) ∷ must 2 (AtMost (pos 1)) ∷ []) ≡ Some UnknownObject)
    × (condition_refusal 0 [] ≡ None)
refusals = (refl, refl, refl)
