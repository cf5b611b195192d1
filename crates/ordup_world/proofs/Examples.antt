-- The definitions after short pasts, worked out by hand: no definition can change its meaning unseen.
use Rattle.std.proofs.Common.{◌≡◌, ℕ, pos, List, [], ◌∷◌, replicate, map, refl}
use Rattle.std.specs.Prelude.{Some, None, codes}
use Rattle.std.specs.List.{range_with_len}
use Rattle.ordup_objects.specs.declared.change.Op.TheVariants.{Add, Set}
use Rattle.ordup_objects.specs.declared.refusal.Refusal.TheVariants.{UnknownObject, UnknownGroup, UnknownSite, OutOfRange, TooMany}
use Rattle.ordup_objects.specs.declared.refusal.Refusal.TheVariants.{NothingToSend, FeedFull, NothingToApply, NothingToSettle}
use Rattle.ordup_objects.specs.declared.refusal.Refusal.TheVariants.{UnknownQuery, QueryOpen, OverImport, HeadPending, LagOver}
use Rattle.ordup_log.specs.declared.scope.Scope.{Scope}
use Rattle.ordup_log.specs.declared.scope.Scope.TheVariants.{Object, Group, All as Everything, Count}
use Rattle.ordup_limits.specs.declared.limit.Limit.{Limit}
use Rattle.ordup_limits.specs.Entries.{entry_of}
use Rattle.ordup_primary.specs.Declarations.{Declared}
use Rattle.ordup_primary.specs.declared.settled.Settled.TheVariants.{Acked, Round, Waiting}
use Rattle.ordup_world.specs.Queries.{ReadMade, refusal_now}
use Rattle.ordup_world.specs.Events.{Past, decisions, limits_at, rounds, windows, opened, open_count, reply, later}
use Rattle.ordup_world.specs.declared.event.Event.{Event}
use Rattle.ordup_world.specs.declared.event.Event.TheVariants.{Propose, Send, Apply, Report, Settle, Relimit}
use Rattle.ordup_world.specs.declared.event.Event.TheVariants.{Begin, Read, End, Abandon, Show}
use Rattle.ordup_world.specs.declared.event.Answer.{Answer}
use Rattle.ordup_world.specs.declared.event.Answer.TheVariants.{Proposed, Sent, Applied, Reported, Settlement, Relimited, Begun}
use Rattle.ordup_world.specs.declared.event.Answer.TheVariants.{ReadOut, Ended, Abandoned, Shown, Refused}

-- x at 0 and y at 10; the site 0 has a feed of 4 and a limit of 5 on x, the site 1 a feed of 1 and no limit
abbrev pub setup : Declared
setup = record {
  objects = (codes "x", pos 0) ∷ (codes "y", pos 10) ∷ [];
  groups = [];
  sites = (codes "a", 4) ∷ (codes "b", 1) ∷ [];
  limits = (entry_of (Object 0) 5 1 ∷ []) ∷ [] ∷ [];
}

-- the same, but the limit on x is 0 from the second update on
abbrev pub stricter : Declared
stricter = record setup { limits = (entry_of (Object 0) 5 1 ∷ entry_of (Object 0) 0 2 ∷ []) ∷ [] ∷ [] }

abbrev pub add_to_x : ℕ → Event ℕ
add_to_x n = Propose (record { object = 0; op = Add (pos n) } ∷ [])

abbrev set_too_high : ℕ → Event ℕ
set_too_high x = Propose (record { object = x; op = Set (pos 2000000000) } ∷ [])

abbrev pub q : List ℕ
q = codes "q"

-- what these events are answered after a past, one after the other
abbrev replies : Past ℕ → List (Event ℕ) → List (Answer ℕ)
replies past [] = []
replies past (e ∷ events) = reply setup past e ∷ replies (later past e (reply setup past e)) events

-- events after a past, each with its answer
abbrev IsTold : Past ℕ → List (Event ℕ × Answer ℕ) → Type 0
IsTold past story = replies past (map (λ s. s.0) story) ≡ map (λ s. s.1) story

-- 5 is not over 5, and 6 is; a report that comes late cancels no round, and ends the waiting once it reaches the head
late : IsTold [] (
    (Settle, Refused NothingToSettle) ∷ (add_to_x 5, Proposed 1) ∷ (Settle, Settlement (Acked 1)) ∷
    (Settle, Refused NothingToSettle) ∷ (add_to_x 1, Proposed 2) ∷ (Settle, Settlement (Round 2 (0 ∷ []))) ∷
    (Settle, Settlement (Waiting 2 (0 ∷ []))) ∷ (Send 0, Sent 0 1) ∷ (Send 0, Sent 0 2) ∷ (Apply 0, Applied 0 1) ∷
    (Report 0, Reported 0 1) ∷ (Settle, Settlement (Waiting 2 (0 ∷ []))) ∷ (Apply 0, Applied 0 2) ∷
    (Show 0, Shown 2 2 1 1 (pos 6 ∷ pos 10 ∷ [])) ∷ (Settle, Settlement (Waiting 2 (0 ∷ []))) ∷ (Report 0, Reported 0 2) ∷
    (Settle, Settlement (Acked 2)) ∷ (Show 0, Shown 2 2 2 1 (pos 6 ∷ pos 10 ∷ [])) ∷
    (Show 1, Shown 0 0 0 0 (pos 0 ∷ pos 10 ∷ [])) ∷ [])
late = refl

-- the same with the report of 1 before the second settlement
in_time : IsTold [] (
    (add_to_x 5, Proposed 1) ∷ (Settle, Settlement (Acked 1)) ∷ (Send 0, Sent 0 1) ∷ (Apply 0, Applied 0 1) ∷
    (Report 0, Reported 0 1) ∷ (add_to_x 1, Proposed 2) ∷ (Settle, Settlement (Acked 2)) ∷
    (Show 0, Shown 1 1 1 0 (pos 5 ∷ pos 10 ∷ [])) ∷ [])
in_time = refl

-- The limit on x is lowered while 3 is acknowledged and not reported, from the head on: to 3, and not to 2. So 3 and 1 are over it,
-- and nothing is changed while that is pending, also once it is reported.
lowered : IsTold [] (
    (add_to_x 3, Proposed 1) ∷ (Settle, Settlement (Acked 1)) ∷ (Relimit 0 (Object 0) 2, Refused LagOver) ∷
    (Relimit 0 (Object 0) 3, Relimited 0 2) ∷ (add_to_x 1, Proposed 2) ∷ (Settle, Settlement (Round 2 (0 ∷ []))) ∷
    (Relimit 0 (Object 0) 9, Refused HeadPending) ∷ (Send 0, Sent 0 1) ∷ (Send 0, Sent 0 2) ∷ (Apply 0, Applied 0 1) ∷
    (Apply 0, Applied 0 2) ∷ (Relimit 1 Count 9, Refused HeadPending) ∷ (Report 0, Reported 0 2) ∷
    (Relimit 0 (Object 0) 9, Refused HeadPending) ∷ (Settle, Settlement (Acked 2)) ∷ (Relimit 0 (Object 0) 0, Relimited 0 3) ∷
    (add_to_x 1, Proposed 3) ∷ (Settle, Settlement (Round 3 (0 ∷ []))) ∷ (Show 0, Shown 2 2 2 2 (pos 4 ∷ pos 10 ∷ [])) ∷ [])
lowered = refl

-- What is applied and not reported counts, and what is proposed and not acknowledged does not. A scope without a limit gets one
-- that sees what the site lags.
begun : IsTold [] (
    (add_to_x 3, Proposed 1) ∷ (Settle, Settlement (Acked 1)) ∷ (Send 0, Sent 0 1) ∷ (Apply 0, Applied 0 1) ∷
    (add_to_x 9, Proposed 2) ∷ (Relimit 0 Count 0, Refused LagOver) ∷ (Relimit 0 Count 1, Relimited 0 2) ∷
    (Report 0, Reported 0 1) ∷ (Relimit 0 Count 0, Relimited 0 2) ∷ (Relimit 0 (Object 0) 9, Relimited 0 2) ∷
    (Relimit 0 Count 1, Relimited 0 2) ∷ (Settle, Settlement (Acked 2)) ∷ [])
begun = refl

-- a change is one of its own site: 5 is over the 0 of the site 1, and not over the 5 of the site 0
one_site : IsTold [] (
    (Relimit 1 (Object 0) 0, Relimited 1 1) ∷ (add_to_x 5, Proposed 1) ∷ (Settle, Settlement (Round 1 (1 ∷ []))) ∷ [])
one_site = refl

-- and of its own scope: what is added to x is within the 5 on x, and over the 0 on all objects
one_scope : IsTold [] (
    (Relimit 0 Everything 0, Relimited 0 1) ∷ (Relimit 0 Everything 5, Relimited 0 1) ∷ (add_to_x 5, Proposed 1) ∷
    (Settle, Settlement (Acked 1)) ∷ (Relimit 0 (Object 0) 100, Relimited 0 2) ∷ (add_to_x 1, Proposed 2) ∷
    (Settle, Settlement (Round 2 (0 ∷ []))) ∷ [])
one_scope = refl

-- the order of the refusals of a change: each of these could be refused later too
relimits : IsTold (Settle ∷ add_to_x 6 ∷ Settle ∷ add_to_x 5 ∷ []) (
    (Relimit 2 (Object 2) 1000000000000000001, Refused UnknownObject) ∷
    (Relimit 2 (Group 0) 1000000000000000001, Refused UnknownGroup) ∷
    (Relimit 2 Everything 1000000000000000001, Refused UnknownSite) ∷
    (Relimit 0 Everything 1000000000000000001, Refused OutOfRange) ∷ (Relimit 0 Everything 0, Refused HeadPending) ∷ [])
relimits = refl

-- 65 objects, and a site with a limit on each of the first 64: the last one would be one too many, also while the head is pending
abbrev full : Declared
full = record {
  objects = replicate 65 (codes "x", pos 0);
  groups = [];
  sites = (codes "a", 4) ∷ [];
  limits = map (λ x. entry_of (Object x) 5 1) (range_with_len 0 64) ∷ [];
}

one_too_many : (reply full (Settle ∷ add_to_x 6 ∷ []) (Relimit 0 (Object 64) 1000000000000000001) ≡ Refused OutOfRange)
    × (reply full (Settle ∷ add_to_x 6 ∷ []) (Relimit 0 (Object 64) 0) ≡ Refused TooMany)
    × (reply full (Settle ∷ add_to_x 6 ∷ []) (Relimit 0 (Object 63) 0) ≡ Refused HeadPending)
    × (reply {A = ℕ} full [] (Relimit 0 (Object 63) 0) ≡ Relimited 0 1)
one_too_many = (refl, refl, refl, refl)

-- a query that may import 4, of a site behind its reference, at it and ahead of it
imports : IsTold [] (
    (add_to_x 3, Proposed 1) ∷ (Settle, Settlement (Acked 1)) ∷ (Send 0, Sent 0 1) ∷ (Begin q 0 4, Begun q 1) ∷
    (Begin q 0 4, Refused QueryOpen) ∷ (Read q 0, ReadOut (record { value = pos 0; import = 3; total = 3 })) ∷
    (Apply 0, Applied 0 1) ∷ (Read q 0, ReadOut (record { value = pos 3; import = 0; total = 3 })) ∷ (add_to_x 2, Proposed 2) ∷
    (Send 0, Sent 0 2) ∷ (Apply 0, Applied 0 2) ∷ (Read q 0, Refused OverImport) ∷
    (End q, Ended (record { place = 1; sum = pos 3; total = 3; reads = 2 })) ∷ (End q, Refused UnknownQuery) ∷
    (Begin q 0 4, Begun q 1) ∷ (Abandon q, Abandoned q) ∷ (Abandon q, Refused UnknownQuery) ∷ [])
imports = refl

-- where two refusals apply the first is answered
refusals : IsTold [] (
    (set_too_high 2, Refused UnknownObject) ∷ (set_too_high 1, Refused OutOfRange) ∷ (Send 2, Refused UnknownSite) ∷
    (Send 1, Refused NothingToSend) ∷ (add_to_x 1, Proposed 1) ∷ (Send 1, Sent 1 1) ∷ (Send 1, Refused NothingToSend) ∷
    (add_to_x 1, Proposed 2) ∷ (Send 1, Refused FeedFull) ∷ (Apply 2, Refused UnknownSite) ∷ (Apply 0, Refused NothingToApply) ∷
    (Report 2, Refused UnknownSite) ∷ (Show 2, Refused UnknownSite) ∷ (Read q 2, Refused UnknownObject) ∷
    (Read q 1, Refused UnknownQuery) ∷ [])
refusals = refl

-- with 64 open queries, and with one fewer
begins : IsTold (replicate 64 (Begin q 0 0)) (
    (Begin q 2 1000000000000000001, Refused UnknownSite) ∷ (Begin q 0 1000000000000000001, Refused OutOfRange) ∷
    (Begin q 0 0, Refused TooMany) ∷ (End q, Ended (record { place = 0; sum = pos 0; total = 0; reads = 0 })) ∷
    (Begin q 0 1000000000000000000, Begun q 0) ∷ [])
begins = refl

-- ---- the numbers of a past, its newest event first

-- the second update is forced, and a report comes late
abbrev past : Past ℕ
past = Settle ∷ Report 0 ∷ Apply 0 ∷ Apply 0 ∷ Send 0 ∷ Send 0 ∷ Settle ∷ add_to_x 1 ∷ Settle ∷ add_to_x 5 ∷ []

decided : ((decisions setup past).acked ≡ 2)
    × ((decisions setup past).decided ≡ 2)
    × ((decisions setup past).reports 0 ≡ 0 ∷ 0 ∷ [])
    × (rounds setup 0 past ≡ 2 ∷ []) × (rounds setup 1 past ≡ [])
decided = (refl, refl, refl, refl, refl)

-- The limits that are in force at the head decide: 3 is within the 5 of the first update, and 3 and 1 are over the 0 of the second,
-- which is waited for. The site 1 has no limit.
abbrev first : Past ℕ
first = Settle ∷ add_to_x 3 ∷ []

abbrev second : Past ℕ
second = Settle ∷ add_to_x 1 ∷ first

by_place : (reply stricter (add_to_x 3 ∷ []) Settle ≡ Settlement (Acked 1))
    × (reply stricter (add_to_x 1 ∷ first) Settle ≡ Settlement (Round 2 (0 ∷ [])))
    × (reply stricter second Settle ≡ Settlement (Waiting 2 (0 ∷ [])))
    × (rounds stricter 0 second ≡ 2 ∷ [])
    × (windows stricter 0 second ≡ record { from = 0; to = 2 } ∷ [])
    × (rounds stricter 1 second ≡ [])
by_place = (refl, refl, refl, refl, refl, refl)

-- the same by a change: the 5 is in force at the first place, and the 3 from the second on
abbrev changed : Past ℕ
changed = Relimit 0 (Object 0) 3 ∷ first

abbrev limit_of : Scope → ℕ → Limit
limit_of scope amount = record { scope = scope; amount = amount }

changes : ((decisions setup changed).limits ≡ (entry_of (Object 0) 5 1 ∷ entry_of (Object 0) 3 2 ∷ []) ∷ [] ∷ [])
    × (limits_at setup changed 0 1 ≡ limit_of (Object 0) 5 ∷ [])
    × (limits_at setup changed 0 2 ≡ limit_of (Object 0) 3 ∷ [])
    × (limits_at setup changed 1 2 ≡ [])
    × ((decisions setup (Relimit 0 (Object 0) 4 ∷ changed)).limits
    ≡ (entry_of (Object 0) 5 1 ∷ entry_of (Object 0) 4 2 ∷ []) ∷ [] ∷ [])
    × ((decisions setup (Relimit 1 Count 4 ∷ changed)).limits
    ≡ (entry_of (Object 0) 5 1 ∷ entry_of (Object 0) 3 2 ∷ []) ∷ (entry_of Count 4 2 ∷ []) ∷ [])
    × (rounds setup 0 (Settle ∷ add_to_x 1 ∷ changed) ≡ 2 ∷ [])
    × (windows setup 0 (Settle ∷ add_to_x 1 ∷ changed) ≡ record { from = 0; to = 2 } ∷ [])
    × (rounds setup 0 (Settle ∷ add_to_x 1 ∷ first) ≡ [])
changes = (refl, refl, refl, refl, refl, refl, refl, refl, refl)

-- q read x before a applied 3, and after
abbrev reading : Past ℕ
reading = Read q 0 ∷ Apply 0 ∷ Read q 0 ∷ Begin q 0 4 ∷ Send 0 ∷ Settle ∷ add_to_x 3 ∷ []

abbrev read_x : ℕ → ℕ → ReadMade
read_x value import = record { object = 0; value = pos value; import = import }

opens : (opened setup q reading ≡ Some (record { site = 0; place = 1; limit = 4; reads = read_x 3 0 ∷ read_x 0 3 ∷ [] }))
    × (opened setup (codes "p") reading ≡ None)
    × (opened setup q (End q ∷ reading) ≡ None)
    × (opened setup q (Abandon q ∷ reading) ≡ None)
    × (open_count (Begin (codes "p") 1 0 ∷ reading) ≡ 2)
    × (open_count (End q ∷ reading) ≡ 0)
    × (open_count (Abandon q ∷ reading) ≡ 0)
opens = (refl, refl, refl, refl, refl, refl, refl)

-- the 256th read may import 4, and no more; the 257th is too many, whatever it imports
reads : (refusal_now (record { site = 0; place = 1; limit = 4; reads = replicate 255 (read_x 3 0) }) (read_x 0 4) ≡ None)
    × (refusal_now (record { site = 0; place = 1; limit = 4; reads = replicate 255 (read_x 3 0) }) (read_x 0 5) ≡ Some OverImport)
    × (refusal_now (record { site = 0; place = 1; limit = 4; reads = replicate 256 (read_x 3 0) }) (read_x 0 5) ≡ Some TooMany)
reads = (refl, refl, refl)
