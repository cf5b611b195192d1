-- The definitions at small numbers, worked out by hand: no definition can change its meaning unseen.
use Rattle.std.proofs.Common.{◌≡◌, ℕ, ℤ, sum_by, pos, List, [], ◌∷◌, length, replicate, map, true, refl}
use Rattle.std.specs.Prelude.{neg_ℤ, Some, None, codes, slice_index_or}
use Rattle.ordup_objects.specs.declared.change.Change.{Change}
use Rattle.ordup_objects.specs.declared.change.Op.{Op}
use Rattle.ordup_objects.specs.declared.change.Op.TheVariants.{Add, Take}
use Rattle.ordup_objects.specs.declared.refusal.Refusal.TheVariants.{BadName, NameTaken, UnknownObject, OutOfRange}
use Rattle.ordup_objects.specs.declared.refusal.Refusal.TheVariants.{TooMany, Empty, Repeated, LogFull}
use Rattle.ordup_objects.specs.declared.moved.Moved.{Moved}
use Rattle.ordup_objects.specs.States.{is_legal}
use Rattle.ordup_objects.specs.Serial.{History, serial}
use Rattle.ordup_objects.specs.Weights.{object_weight}
use Rattle.ordup_objects.specs.Joins.{BeginsAtEnd, joined}
use Rattle.ordup_log.specs.Groups.{GroupList, group_refusal, member_refusal, last_members, with_member}
use Rattle.ordup_log.specs.Spans.{weight, span}
use Rattle.ordup_log.specs.Appending.{append_refusal}
use Rattle.ordup_log.specs.Steps.{steps_of, as_of}
use Rattle.ordup_log.specs.Moving.{moves_below, distance_on, distance_of}
use Rattle.ordup_log.specs.Rows.{row_due, marks_due}
use Rattle.ordup_log.specs.Postings.{postings_of, posted}
use Rattle.ordup_log.specs.declared.scope.Scope.TheVariants.{Object, Group, All as Everything, Count}

abbrev change : ℕ → Op → Change
change x op = record { object = x; op = op }

-- x at 0, y at 10 and z at 0: x and y swap, and then 3 is taken from x and 4 added to z
abbrev swap_and_add : History
swap_and_add = record {
  start = pos 0 ∷ pos 10 ∷ pos 0 ∷ [];
  sets = (change 0 (Take 1) ∷ change 1 (Take 0) ∷ []) ∷ (change 0 (Add (neg_ℤ (pos 3))) ∷ change 2 (Add (pos 4)) ∷ []) ∷ [];
}

-- z alone, and x and y
abbrev two_groups : GroupList
two_groups = (codes "g", 2 ∷ []) ∷ (codes "h", 0 ∷ 1 ∷ []) ∷ []

-- x moves from 0 to 10 and on to 7, y from 10 to 0, and z from 0 to 4
weights : (map (weight swap_and_add two_groups (Object 0)) (0 ∷ 1 ∷ []) ≡ 10 ∷ 3 ∷ [])
    × (map (weight swap_and_add two_groups (Group 1)) (0 ∷ 1 ∷ []) ≡ 20 ∷ 3 ∷ [])
    × (map (weight swap_and_add two_groups Everything) (0 ∷ 1 ∷ []) ≡ 20 ∷ 7 ∷ [])
    × (map (weight swap_and_add two_groups Count) (0 ∷ 1 ∷ []) ≡ 1 ∷ 1 ∷ [])
weights = (refl, refl, refl, refl)

-- the sums over both; from 1 on those of the second alone, and from 2 on nothing
spans : (span swap_and_add two_groups (Object 0) 0 2 ≡ 13)
    × (span swap_and_add two_groups (Group 1) 0 2 ≡ 23)
    × (span swap_and_add two_groups Everything 0 2 ≡ 27)
    × (span swap_and_add two_groups Count 0 2 ≡ 2)
    × (span swap_and_add two_groups Everything 1 2 ≡ 7)
    × (span swap_and_add two_groups Count 2 2 ≡ 0)
    × (span swap_and_add two_groups Count 2 0 ≡ 0)
spans = (refl, refl, refl, refl, refl, refl, refl)

-- from the values of its end, x at 7, y at 0 and z at 4: 2 is taken from x and 6 added to y, and then 1 is added to z
abbrev take_and_add : History
take_and_add = record {
  start = pos 7 ∷ pos 0 ∷ pos 4 ∷ [];
  sets = (change 0 (Add (neg_ℤ (pos 2))) ∷ change 1 (Add (pos 6)) ∷ []) ∷ (change 2 (Add (pos 1)) ∷ []) ∷ [];
}

-- within the next one 8 and 1; across the join 7 and 9, of which 3 and 8 on x and y, and 4 and 1 on z
joins : BeginsAtEnd swap_and_add take_and_add
    × (span (joined swap_and_add take_and_add) two_groups Everything 2 3 ≡ 8)
    × (span (joined swap_and_add take_and_add) two_groups Everything 2 4 ≡ 9)
    × (span (joined swap_and_add take_and_add) two_groups Everything 1 4 ≡ 16)
    × (span (joined swap_and_add take_and_add) two_groups (Group 1) 1 4 ≡ 11)
    × (span (joined swap_and_add take_and_add) two_groups (Object 2) 1 4 ≡ 5)
    × (span (joined swap_and_add take_and_add) two_groups Count 1 4 ≡ 3)
joins = (refl, refl, refl, refl, refl, refl, refl)

-- a number that is 0 at the places 0 and 1, 5 at 2 and 3, and 9 at 4 and 5: it changes at 2 and at 4
abbrev steady : ℕ → ℕ
steady k = slice_index_or (0 ∷ 0 ∷ 5 ∷ 5 ∷ 9 ∷ 9 ∷ []) k 0

steps : (steps_of steady 5 ≡ (2, 5) ∷ (4, 9) ∷ [])
    × (steps_of steady 3 ≡ (2, 5) ∷ [])
    × (map (as_of ((2, 5) ∷ (4, 9) ∷ [])) (0 ∷ 1 ∷ 2 ∷ 3 ∷ 4 ∷ 5 ∷ []) ≡ 0 ∷ 0 ∷ 5 ∷ 5 ∷ 9 ∷ 9 ∷ [])
steps = (refl, refl, refl)

-- z is not moved by the first update, so it has no posting there
postings : (postings_of (object_weight swap_and_add 0) 2 ≡ (1, 10) ∷ (2, 13) ∷ [])
    × (postings_of (object_weight swap_and_add 2) 2 ≡ (2, 4) ∷ [])
    × (postings_of (weight swap_and_add [] Everything) 2 ≡ (1, 20) ∷ (2, 27) ∷ [])
    × (postings_of (weight swap_and_add [] Everything) 1 ≡ (1, 20) ∷ [])
postings = (refl, refl, refl, refl)

-- one update more: it has a posting, where it weighs something
postings_more : (posted [] 1 3 3 ≡ (1, 3) ∷ [])
    × (posted ((1, 3) ∷ []) 2 0 3 ≡ (1, 3) ∷ [])
    × (posted ((1, 3) ∷ []) 3 2 5 ≡ (1, 3) ∷ (3, 5) ∷ [])
postings_more = (refl, refl, refl)

abbrev move : ℕ → ℤ → ℕ → Moved
move x value distance = record { object = x; value = value; distance = distance }

-- the moves of both updates: each has the value after its update
moves : (moves_below swap_and_add 1 ≡ move 0 (pos 10) 10 ∷ move 1 (pos 0) 10 ∷ [])
    × (moves_below swap_and_add 2 ≡ move 0 (pos 10) 10 ∷ move 1 (pos 0) 10 ∷ move 0 (pos 7) 3 ∷ move 2 (pos 4) 4 ∷ [])
    × (map (λ x. sum_by (distance_on x) (moves_below swap_and_add 2)) (0 ∷ 1 ∷ 2 ∷ []) ≡ 13 ∷ 10 ∷ 4 ∷ [])
    × (sum_by distance_of (moves_below swap_and_add 2) ≡ 27)
moves = (refl, refl, refl, refl)

-- the update 256 adds the first row of marks, and the update 512 the next
rows : (map (λ k. row_due k (13 ∷ 10 ∷ [])) (1 ∷ 255 ∷ 256 ∷ 257 ∷ 511 ∷ 512 ∷ [])
    ≡ [] ∷ [] ∷ (13 ∷ 10 ∷ []) ∷ [] ∷ [] ∷ (13 ∷ 10 ∷ []) ∷ [])
    × (map (λ k. marks_due k 2) (1 ∷ 255 ∷ 256 ∷ 257 ∷ 511 ∷ 512 ∷ []) ≡ 0 ∷ 0 ∷ 2 ∷ 0 ∷ 0 ∷ 2 ∷ [])
rows = (refl, refl)

-- a log at 1,000,000,000 takes no 1 more, and 1 less: what counts is the state after all updates
abbrev at_the_edge : History
at_the_edge = record { start = pos 0 ∷ []; sets = (change 0 (Add (pos 1000000000)) ∷ []) ∷ [] }

appended : (append_refusal at_the_edge (change 0 (Add (pos 1)) ∷ []) ≡ Some OutOfRange)
    × (append_refusal at_the_edge (change 0 (Add (neg_ℤ (pos 1))) ∷ []) ≡ None)
appended = (refl, refl)

-- a log of 1,000,000 updates takes none, whatever it is; one of 999,999 takes what is legal
full : (h : History) (m : List Change) → length h.sets ≡ 1000000 → append_refusal h m ≡ Some LogFull
full h m e = rw e refl

not_full : (h : History) (m : List Change) → length h.sets ≡ 999999 → is_legal m (serial h 999999) ≡ true
    → append_refusal h m ≡ None
not_full h m e legal = rw e (rw legal refl)

-- the order of the refusals of a group over one object: each of these could be refused later too
refusals : (group_refusal 1 two_groups (codes "G") (1 ∷ []) ≡ Some BadName)
    × (group_refusal 1 two_groups (codes "g") (1 ∷ []) ≡ Some NameTaken)
    × (group_refusal 1 [] (codes "g") (replicate 65 1) ≡ Some UnknownObject)
    × (group_refusal 1 [] (codes "g") (replicate 65 0) ≡ Some TooMany)
    × (group_refusal 1 (replicate 32 (codes "g", 0 ∷ [])) (codes "h") [] ≡ Some TooMany)
    × (group_refusal 1 [] (codes "g") [] ≡ Some Empty)
    × (group_refusal 2 [] (codes "g") (0 ∷ 1 ∷ 0 ∷ []) ≡ Some Repeated)
    × (group_refusal 2 (replicate 31 (codes "g", 0 ∷ [])) (codes "h") (0 ∷ 1 ∷ []) ≡ None)
refusals = (refl, refl, refl, refl, refl, refl, refl, refl)

-- z as a member of the last group, and the first stays as it is
members : (last_members two_groups ≡ 0 ∷ 1 ∷ [])
    × (with_member two_groups 2 ≡ (codes "g", 2 ∷ []) ∷ (codes "h", 0 ∷ 1 ∷ 2 ∷ []) ∷ [])
members = (refl, refl)

-- the order of the refusals of a member: each of these could be refused later too
member_refusals : (member_refusal 1 (replicate 64 1) 1 ≡ Some UnknownObject)
    × (member_refusal 2 (replicate 64 1) 1 ≡ Some TooMany)
    × (member_refusal 2 (0 ∷ 1 ∷ []) 1 ≡ Some Repeated)
    × (member_refusal 2 (replicate 63 0) 1 ≡ None)
member_refusals = (refl, refl, refl, refl)
