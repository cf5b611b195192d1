-- The definitions at small numbers, worked out by hand: no definition can change its meaning unseen.
use Rattle.std.proofs.Common.{◌≡◌, ℕ, pos, true, false, [], ◌∷◌, replicate, map, refl}
use Rattle.std.specs.Prelude.{neg_ℤ, Some, None, codes}
use Rattle.ordup_objects.specs.declared.change.Change.{Change}
use Rattle.ordup_objects.specs.declared.change.Op.{Op}
use Rattle.ordup_objects.specs.declared.change.Op.TheVariants.{Add, Set, Mul, Max, Min, Take}
use Rattle.ordup_objects.specs.declared.refusal.Refusal.TheVariants.{UnknownObject, OutOfRange, TooMany, Empty, Repeated, NoMemory}
use Rattle.ordup_objects.specs.Refusals.{IsRefusal}
use Rattle.ordup_objects.specs.States.{in_range, result_of, is_legal, after}
use Rattle.ordup_objects.specs.Sets.{are_of_one_object, set_refusal}
use Rattle.ordup_objects.specs.Repeats.{repeats}
use Rattle.ordup_objects.specs.Tables.{with_entry}
use Rattle.ordup_objects.specs.Serial.{History, serial, prefix_of}
use Rattle.ordup_objects.specs.Joins.{BeginsAtEnd, joined}
use Rattle.ordup_objects.specs.Weights.{object_weight, object_span}

-- a call that is refused answers that refusal, and NoMemory where none applies; nothing else
refused_so : IsRefusal (Some OutOfRange) OutOfRange × IsRefusal None NoMemory
refused_so = (refl, refl)

refused_memory_otherwise : IsRefusal (Some OutOfRange) NoMemory → ⊥
refused_memory_otherwise e = cc

refused_without_a_reason : IsRefusal None OutOfRange → ⊥
refused_without_a_reason e = cc

-- 1,000,000,000 is in range on both sides of 0, and one more is not
range : (in_range (pos 1000000000) ≡ true) × (in_range (neg_ℤ (pos 1000000000)) ≡ true)
    × (in_range (pos 1000000001) ≡ false) × (in_range (neg_ℤ (pos 1000000001)) ≡ false)
range = (refl, refl, refl, refl)

-- what becomes of 7 by 3, beside an object with 10
results : map (result_of (pos 7 ∷ pos 10 ∷ []) (pos 7))
    (Add (pos 3) ∷ Set (pos 3) ∷ Mul (pos 3) ∷ Max (pos 3) ∷ Min (pos 3) ∷ Take 1 ∷ [])
    ≡ pos 10 ∷ pos 3 ∷ pos 21 ∷ pos 7 ∷ pos 3 ∷ pos 10 ∷ []
results = refl

abbrev change : ℕ → Op → Change
change x op = record { object = x; op = op }

-- 999,999,999 and 1 is legal, 1,000,000,000 and 1 is not, nor is a set with one such change
legal : (is_legal (change 0 (Add (pos 1)) ∷ []) (pos 999999999 ∷ []) ≡ true)
    × (is_legal (change 0 (Add (pos 1)) ∷ []) (pos 1000000000 ∷ []) ≡ false)
    × (is_legal (change 0 (Set (pos 7)) ∷ change 1 (Add (pos 1)) ∷ []) (pos 0 ∷ pos 1000000000 ∷ []) ≡ false)
legal = (refl, refl, refl)

-- 0 and 10 swap: both changes read the state before the set
swap : after (change 0 (Take 1) ∷ change 1 (Take 0) ∷ []) (pos 0 ∷ pos 10 ∷ []) ≡ pos 10 ∷ pos 0 ∷ []
swap = refl

-- x, y, x repeats x, though not beside it
repeated : (repeats are_of_one_object (change 0 (Set (pos 1)) ∷ change 1 (Set (pos 1)) ∷ change 0 (Set (pos 2)) ∷ []) ≡ true)
    × (repeats are_of_one_object (change 0 (Set (pos 1)) ∷ change 1 (Set (pos 1)) ∷ []) ≡ false)
repeated = (refl, refl)

-- the order of the refusals of a set over one object: each of these lists could be refused later too
refusals : (set_refusal 1 (replicate 65 (change 1 (Set (pos 1000000001)))) ≡ Some UnknownObject)
    × (set_refusal 1 (replicate 65 (change 0 (Set (pos 1000000001)))) ≡ Some OutOfRange)
    × (set_refusal 1 (replicate 65 (change 0 (Set (pos 1)))) ≡ Some TooMany)
    × (set_refusal 1 [] ≡ Some Empty)
    × (set_refusal 1 (replicate 64 (change 0 (Set (pos 1)))) ≡ Some Repeated)
    × (set_refusal 1 (change 0 (Set (pos 1)) ∷ []) ≡ None)
refusals = (refl, refl, refl, refl, refl, refl)

-- x at 0 and y at 10: x takes the value of y while 3 is added to y, and then 1 is added to x
abbrev take_and_add : History
take_and_add = record {
  start = pos 0 ∷ pos 10 ∷ [];
  sets = (change 0 (Take 1) ∷ change 1 (Add (pos 3)) ∷ []) ∷ (change 0 (Add (pos 1)) ∷ []) ∷ [];
}

serials : map (serial take_and_add) (0 ∷ 1 ∷ 2 ∷ 3 ∷ [])
    ≡ (pos 0 ∷ pos 10 ∷ []) ∷ (pos 10 ∷ pos 13 ∷ []) ∷ (pos 11 ∷ pos 13 ∷ []) ∷ (pos 11 ∷ pos 13 ∷ []) ∷ []
serials = refl

-- the first update alone
prefix : prefix_of take_and_add 1
    ≡ record { start = pos 0 ∷ pos 10 ∷ []; sets = (change 0 (Take 1) ∷ change 1 (Add (pos 3)) ∷ []) ∷ [] }
prefix = refl

-- a table of y at 5 and z at 6, whose z comes to 7
entries : with_entry {V = ℕ} ((codes "y", 5) ∷ (codes "z", 6) ∷ []) 1 7 ≡ (codes "y", 5) ∷ (codes "z", 7) ∷ []
entries = refl

-- x weighs 10 and 1, and y weighs 3 and nothing
weights : (map (object_weight take_and_add 0) (0 ∷ 1 ∷ []) ≡ 10 ∷ 1 ∷ [])
    × (map (object_weight take_and_add 1) (0 ∷ 1 ∷ []) ≡ 3 ∷ 0 ∷ [])
weights = (refl, refl)

-- 3 up and 3 down weigh 6; an empty span weighs nothing
abbrev up_and_down : History
up_and_down = record { start = pos 0 ∷ []; sets = (change 0 (Add (pos 3)) ∷ []) ∷ (change 0 (Add (neg_ℤ (pos 3))) ∷ []) ∷ [] }

spans : (object_span up_and_down 0 0 2 ≡ 6) × (object_span up_and_down 0 1 2 ≡ 3)
    × (object_span up_and_down 0 2 2 ≡ 0) × (object_span up_and_down 0 2 0 ≡ 0)
spans = (refl, refl, refl, refl)

-- ---- a history that begins at the end of another: x ends at 2, begins there again, and goes down by 5

abbrev successor : History
successor = record { start = pos 2 ∷ []; sets = (change 0 (Add (neg_ℤ (pos 5))) ∷ []) ∷ [] }

abbrev ended : History
ended = record { start = pos 0 ∷ []; sets = (change 0 (Add (pos 3)) ∷ []) ∷ (change 0 (Add (neg_ℤ (pos 1))) ∷ []) ∷ [] }

begins_at_end : BeginsAtEnd ended successor
begins_at_end = refl

-- one that begins at the initial values does not begin at the end, nor does one that begins before the last update
begins_at_start : BeginsAtEnd ended (record { start = pos 0 ∷ []; sets = [] }) → ⊥
begins_at_start begins = absurd cc

begins_too_early : BeginsAtEnd ended (record { start = pos 3 ∷ []; sets = [] }) → ⊥
begins_too_early begins = absurd cc

-- places 1 and 2 weigh 3 and 1, place 3 weighs 5
joined-spans : (serial (joined ended successor) 3 ≡ neg_ℤ (pos 3) ∷ []) × (object_span (joined ended successor) 0 2 3 ≡ 5)
    × (object_span (joined ended successor) 0 1 3 ≡ 6)
joined-spans = (refl, refl, refl)
