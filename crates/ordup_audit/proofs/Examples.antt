-- Verdicts on small records, worked out by hand.
use Rattle.ordup_audit.proofs.Common.{◌<◌, ◌∷◌, ◌≡◌, ◌≤◌, [], Add, All-cons, All-nil, arith, Bool, Change, false, full_rounds, is_within, leb-true, List}
use Rattle.ordup_audit.proofs.Common.{Object, pos, RecordState, refl, report_at, StaysWithin, suc, true, Window, zero, ℕ}
use Rattle.std.specs.Prelude.{codes, nat_le, slice_index, unwrap_or}
use Rattle.std.proofs.lemmas.Bool.{agree_below, agree_below_at}
use Rattle.ordup_rounds.specs.Schedules.{IsSchedule, base}
use Rattle.ordup_limits.specs.declared.limit_entry.LimitEntry.{LimitEntry}
use Rattle.ordup_audit.specs.declared.report_change.ReportChange.{ReportChange}
use Rattle.ordup_audit.specs.Passing.{PassesBelow, IsFirstFailure}
use Rattle.ordup_audit.specs.Beginning.{HaveBegun}
use Rattle.ordup_audit.specs.LeastStarts.{AreLeastStarts, IsLeastStart}
use Rattle.ordup_audit.specs.Verdicts.{IsVerdict, NoFewerRounds}
use Rattle.ordup_audit.specs.declared.verdict.Verdict.TheVariants.{Fewest, No}
use Rattle.ordup_audit.specs.declared.verdict.Reason.TheVariants.{NotLegal, LimitsBroken, WindowLight, WindowsMeet, WindowBeforeReport}
use Rattle.ordup_audit.specs.declared.verdict.Reason.TheVariants.{CountDiffers}

-- a test that passes at each of the first numbers, as it computes
passes : (test : ℕ → Bool) (n : ℕ) → agree_below test (λ i. true) n ≡ true → PassesBelow test n
passes test n all k lt = agree_below_at test (λ i. true) n k all lt

-- the first number at which it fails
fails : (test : ℕ → Bool) (n k : ℕ) → k < n → test k ≡ false → agree_below test (λ i. true) k ≡ true
    → IsFirstFailure test n k
fails test n k there here before = record { there = there; fails = here; before = passes test k before }

abbrev change : ℕ → ℕ → Change
change x n = record { object = x; op = Add (pos n) }

-- one change, which adds to object x
abbrev adds : ℕ → List Change
adds n = change 0 n ∷ []

-- one report change
abbrev reports : ℕ → ℕ → List ReportChange
reports place n = record { place = place; reported = n } ∷ []

abbrev from_to : ℕ → ℕ → Window
from_to a b = record { from = a; to = b }

-- object x at this value and y at 10, and a limit of 5 on x
abbrev record_with : ℕ → List (List Change) → List ReportChange → List ℕ → List Window → RecordState
record_with value sets changes rounds windows = record {
  site = codes "a";
  objects = (codes "x", pos value) ∷ (codes "y", pos 10) ∷ [];
  groups = [];
  limits = record { limit = record { scope = Object 0; amount = 5 }; place = 1 } ∷ [];
  sets = sets;
  reports = changes;
  rounds = rounds;
  windows = windows;
}

-- the updates weigh 5 and 1, so the second needs a round, and its window is over the limit
forced : IsVerdict (record_with 0 (adds 5 ∷ adds 1 ∷ []) [] (2 ∷ []) (from_to 0 2 ∷ [])) (Fewest 1)
forced = (passes _ 2 refl, passes _ 2 refl, passes _ 1 refl, passes _ 1 refl, passes _ 1 refl, refl, refl)

-- the one round at place 2 is a schedule that keeps the limits, so no schedule has to have two
one_round : IsSchedule 2 (full_rounds (2 ∷ []))
one_round k m some le awaits =
    let upto : nat_le (unwrap_or (full_rounds (2 ∷ []) k) 0) k ≡ true =
    agree_below_at (λ i. nat_le (unwrap_or (full_rounds (2 ∷ []) i) 0) i) (λ i. true) 3 k refl (omega arith) in
    leb-true m k (rw awaits at upto)

one_round_keeps : StaysWithin (is_within (record_with 0 (adds 5 ∷ adds 1 ∷ []) [] [] [])) (report_at []) 2 (full_rounds (2 ∷ []))
one_round_keeps k some le =
    agree_below_at (λ i. is_within (record_with 0 (adds 5 ∷ adds 1 ∷ []) [] [] []) (base (report_at []) (full_rounds (2 ∷ [])) i) i)
    (λ i. true) 3 k refl (omega arith)

not_two : NoFewerRounds (record_with 0 (adds 5 ∷ adds 1 ∷ []) [] (2 ∷ []) (from_to 0 2 ∷ [])) 2 → ⊥
not_two fewest = absurd (let le : 2 ≤ 1 = fewest (full_rounds (2 ∷ [])) one_round one_round_keeps in omega arith)

-- no round is needed where the site had reported the first
reported : IsVerdict (record_with 0 (adds 5 ∷ adds 1 ∷ []) (reports 2 1) [] []) (Fewest 0)
reported = (passes _ 2 refl, passes _ 2 refl, passes _ 0 refl, passes _ 0 refl, passes _ 0 refl, refl, refl)

-- the second of the changes of the second update is out of range, in row 7: the head, two objects, the limit, one change, and it
out_of_range : IsVerdict (record_with 999999999 (adds 1 ∷ (change 1 1 ∷ change 0 1 ∷ []) ∷ []) [] [] []) (No 7 NotLegal)
out_of_range = (1, 1, fails _ 2 1 (omega arith) refl refl, fails _ 2 1 (omega arith) refl refl, refl)

-- without the round the second update passes the limit, in row 6
without_round : IsVerdict (record_with 0 (adds 5 ∷ adds 1 ∷ []) [] [] (from_to 0 2 ∷ [])) (No 6 LimitsBroken)
without_round = (passes _ 2 refl, (1, fails _ 2 1 (omega arith) refl refl, refl))

-- the window of the second update alone weighs 1, in row 8
light : IsVerdict (record_with 0 (adds 5 ∷ adds 1 ∷ []) [] (2 ∷ []) (from_to 1 2 ∷ [])) (No 8 WindowLight)
light = (passes _ 2 refl, passes _ 2 refl, (0, fails _ 1 0 (omega arith) refl refl, refl))

-- equal is not over: a window of 5 is light, and a light one is named before such that meet
light_first : IsVerdict (record_with 0 (adds 3 ∷ adds 3 ∷ adds 2 ∷ []) [] (2 ∷ 3 ∷ []) (from_to 0 2 ∷ from_to 1 3 ∷ []))
    (No 11 WindowLight)
light_first = (passes _ 3 refl, passes _ 3 refl, (1, fails _ 2 1 (omega arith) refl refl, refl))

-- two windows that share place 2
meeting : IsVerdict (record_with 0 (adds 3 ∷ adds 3 ∷ adds 3 ∷ []) [] (2 ∷ 3 ∷ []) (from_to 0 2 ∷ from_to 1 3 ∷ []))
    (No 11 WindowsMeet)
meeting = (passes _ 3 refl, passes _ 3 refl, passes _ 2 refl, (1, fails _ 2 1 (omega arith) refl refl, refl))

-- windows that touch do not meet
touching : IsVerdict (record_with 0 (adds 3 ∷ adds 3 ∷ adds 3 ∷ adds 3 ∷ []) [] (2 ∷ 4 ∷ []) (from_to 0 2 ∷ from_to 2 4 ∷ []))
    (Fewest 2)
touching = (passes _ 4 refl, passes _ 4 refl, passes _ 2 refl, passes _ 2 refl, passes _ 2 refl, refl, refl)

-- the site had reported 1 when place 2 was decided, in row 9
early : IsVerdict (record_with 0 (adds 5 ∷ adds 1 ∷ []) (reports 2 1) (2 ∷ []) (from_to 0 2 ∷ [])) (No 9 WindowBeforeReport)
early = (passes _ 2 refl, passes _ 2 refl, passes _ 1 refl, passes _ 1 refl, (0, fails _ 1 0 (omega arith) refl refl, refl))

-- a round without a window, and the last row
without_window : IsVerdict (record_with 0 (adds 5 ∷ adds 1 ∷ []) [] (2 ∷ []) []) (No 7 CountDiffers)
without_window = (passes _ 2 refl, passes _ 2 refl, passes _ 0 refl, passes _ 0 refl, passes _ 0 refl, λ same. absurd (omega arith), refl)

-- the same with the groups g of x and y and h of y: three rows of members more
abbrev grouped : List (List Change) → List ℕ → List Window → RecordState
grouped sets rounds windows = record (record_with 0 sets [] rounds windows) { groups = (codes "g", 0 ∷ 1 ∷ []) ∷ (codes "h", 1 ∷ []) ∷ [] }

-- after an update of two changes the next is out of range, in row 10: the head, two objects, three members, the limit, two changes,
-- and it
out_of_range_later : IsVerdict (grouped ((change 1 1 ∷ change 0 1 ∷ []) ∷ adds 1000000000 ∷ []) [] []) (No 10 NotLegal)
out_of_range_later = (1, 0, fails _ 2 1 (omega arith) refl refl, fails _ 1 0 (omega arith) refl refl, refl)

-- an update that passes the limit is named by the first of its two rows
without_round_later : IsVerdict (grouped (adds 5 ∷ (change 1 1 ∷ change 0 1 ∷ []) ∷ []) [] []) (No 9 LimitsBroken)
without_round_later = (passes _ 2 refl, (1, fails _ 2 1 (omega arith) refl refl, refl))

-- three rows of changes stand before the round and the window
light_later : IsVerdict (grouped ((change 1 1 ∷ change 0 5 ∷ []) ∷ adds 1 ∷ []) (2 ∷ []) (from_to 1 2 ∷ [])) (No 12 WindowLight)
light_later = (passes _ 2 refl, passes _ 2 refl, (0, fails _ 1 0 (omega arith) refl refl, refl))

-- ---- limits by place

-- a limit on x of this amount, from a place on
abbrev from : ℕ → ℕ → LimitEntry
from amount place = record { limit = record { scope = Object 0; amount = amount }; place = place }

-- the same record with these limits
abbrev limited : List LimitEntry → RecordState → RecordState
limited limits r = record r { limits = limits }

-- 3, 1 and 1 with a limit of 5, of 3 from place 2 on, and of 0 from place 3 on: two rounds, each with a window over the limit at
-- its end
abbrev lowered : List LimitEntry → List ℕ → List Window → RecordState
lowered limits rounds windows = limited limits (record_with 0 (adds 3 ∷ adds 1 ∷ adds 1 ∷ []) (reports 3 2) rounds windows)

lowered_twice : IsVerdict (lowered (from 5 1 ∷ from 3 2 ∷ from 0 3 ∷ []) (2 ∷ 3 ∷ []) (from_to 0 2 ∷ from_to 2 3 ∷ [])) (Fewest 2)
lowered_twice = (passes _ 3 refl, passes _ 3 refl, passes _ 2 refl, passes _ 2 refl, passes _ 2 refl, refl, refl)

-- a window of 4 is light where 4 is in force at its end, in row 13
lowered_less : IsVerdict (lowered (from 5 1 ∷ from 4 2 ∷ from 0 3 ∷ []) (2 ∷ 3 ∷ []) (from_to 0 2 ∷ from_to 2 3 ∷ []))
    (No 13 WindowLight)
lowered_less = (passes _ 3 refl, passes _ 3 refl, (0, fails _ 2 0 (omega arith) refl refl, refl))

-- the third update needs a round by the limit at its place, in row 9
lowered_unseen : IsVerdict (lowered (from 5 1 ∷ from 3 2 ∷ from 0 3 ∷ []) (2 ∷ []) (from_to 0 2 ∷ [])) (No 9 LimitsBroken)
lowered_unseen = (passes _ 3 refl, (2, fails _ 3 2 (omega arith) refl refl, refl))

-- a limit that was raised later does not excuse the first update, nor make its window light
raised : IsVerdict (limited (from 0 1 ∷ from 9 2 ∷ []) (record_with 0 (adds 1 ∷ adds 1 ∷ []) [] (1 ∷ []) (from_to 0 1 ∷ []))) (Fewest 1)
raised = (passes _ 2 refl, passes _ 2 refl, passes _ 1 refl, passes _ 1 refl, passes _ 1 refl, refl, refl)

-- ---- least starts

-- a place before which each start passes a limit, as the test computes
least : (test : ℕ → ℕ → Bool) (a b : ℕ) → agree_below (λ k. test k b) (λ k. false) a ≡ true → test a b ≡ true → IsLeastStart test a b
least test a b before here = record {
  before = λ k lt. agree_below_at (λ k. test k b) (λ k. false) a k before lt;
  here = here;
}

-- updates of 5, 1 and 9: the first two are over the limit of 5, and so is the third alone
abbrev five_one_nine : ℕ → ℕ → Bool
five_one_nine = is_within (record_with 0 (adds 5 ∷ adds 1 ∷ adds 9 ∷ []) [] [] [])

least_start : (b : ℕ) → b < 4 → IsLeastStart five_one_nine (slice_index (0 ∷ 0 ∷ 1 ∷ 3 ∷ []) b) b
least_start zero lt = least five_one_nine 0 0 refl refl
least_start (suc zero) lt = least five_one_nine 0 1 refl refl
least_start (suc (suc zero)) lt = least five_one_nine 1 2 refl refl
least_start (suc (suc (suc zero))) lt = least five_one_nine 3 3 refl refl
least_start (suc (suc (suc (suc b)))) lt = absurd (omega arith)

least_starts : AreLeastStarts five_one_nine 4 (0 ∷ 0 ∷ 1 ∷ 3 ∷ [])
least_starts = record { count = refl; each = least_start }

-- updates of 5, 1, 3 and 1: the limit is 5, then 9 from the third on, by which the least start falls, and 0 from the fourth on
abbrev changing : List LimitEntry
changing = from 5 1 ∷ from 9 3 ∷ from 0 4 ∷ []

abbrev five_nine_none : ℕ → ℕ → Bool
five_nine_none = is_within (limited changing (record_with 0 (adds 5 ∷ adds 1 ∷ adds 3 ∷ adds 1 ∷ []) [] [] []))

falling_start : (b : ℕ) → b < 5 → IsLeastStart five_nine_none (slice_index (0 ∷ 0 ∷ 1 ∷ 0 ∷ 4 ∷ []) b) b
falling_start zero lt = least five_nine_none 0 0 refl refl
falling_start (suc zero) lt = least five_nine_none 0 1 refl refl
falling_start (suc (suc zero)) lt = least five_nine_none 1 2 refl refl
falling_start (suc (suc (suc zero))) lt = least five_nine_none 0 3 refl refl
falling_start (suc (suc (suc (suc zero)))) lt = least five_nine_none 4 4 refl refl
falling_start (suc (suc (suc (suc (suc b))))) lt = absurd (omega arith)

falling_starts : AreLeastStarts five_nine_none 5 (0 ∷ 0 ∷ 1 ∷ 0 ∷ 4 ∷ [])
falling_starts = record { count = refl; each = falling_start }

-- two of the limits have begun at place 3
two_have_begun : HaveBegun 3 changing 2
two_have_begun = record {
  upto = All-cons (λ e. e.place ≤ 3) (from 5 1) (from 9 3 ∷ []) (omega arith)
      (All-cons (λ e. e.place ≤ 3) (from 9 3) [] (omega arith) (All-nil (λ e. e.place ≤ 3)));
  later = All-cons (λ e. 3 < e.place) (from 0 4) [] (omega arith) (All-nil (λ e. 3 < e.place));
}
