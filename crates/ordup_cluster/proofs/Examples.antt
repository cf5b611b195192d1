-- Refusals of the cluster's calls, and a successor, worked out by hand: no definition can change its meaning unseen.
use Rattle.std.proofs.Common.{◌≡◌, ℕ, ◌+◌, ◌≤◌, Bool, List, [], ◌∷◌, pos, inl, inr, refl, arith}
use Rattle.std.specs.Prelude.{Some, None, codes, true, false, if◌then◌else◌}
use Rattle.std.specs.Option.{option_or}
use Rattle.ordup_objects.specs.declared.change.Change.{Change}
use Rattle.ordup_objects.specs.declared.change.Op.TheVariants.{Add}
use Rattle.ordup_objects.specs.declared.refusal.Refusal.TheVariants.{UnknownObject, UnknownGroup, UnknownSite, OutOfRange, TooMany}
use Rattle.ordup_objects.specs.declared.refusal.Refusal.TheVariants.{Behind, NotYet, Stopped, HeadPending, LagOver, LogFull}
use Rattle.ordup_objects.specs.Refusals.{IsRefusal}
use Rattle.ordup_objects.specs.Serial.{History}
use Rattle.ordup_log.specs.declared.scope.Scope.TheVariants.{Object, Group, Count}
use Rattle.ordup_limits.specs.Entries.{entry_of}
use Rattle.ordup_conditions.specs.declared.condition.Condition.{Condition}
use Rattle.ordup_conditions.specs.declared.condition.Bound.TheVariants.{AtMost}
use Rattle.ordup_holds.specs.declared.proposal_error.ProposalError.TheVariants.{Refused, Unmet}
use Rattle.ordup_holds.proofs.Examples.{lagging}
use Rattle.ordup_cluster.specs.Clusters.{ClusterState, ClosedState, IsSuccessor, count_at_end, closed_successor_refusal, opening_refusal}
use Rattle.ordup_cluster.specs.Refusals.{IsNumber, ReadRequest, IsReadRefusal, IsLimitPlace, IsLimitChangeRefusal, IsNotProposed, request_refusal, undeclared_refusal}

-- ---- a read of the one object at the one site, by a session that has seen 1 update

abbrev one_of_each : ClusterState
one_of_each = record {
  before = 0;
  start = record {
    objects = (codes "x", pos 0) ∷ [];
    groups = (codes "g", 0 ∷ []) ∷ [];
    sites = (codes "a", 4) ∷ [];
    limits = [] ∷ [];
  };
}

abbrev of_both : ReadRequest
of_both = record { object = 0; site = 0; seen = 1 }

-- a site that applied 2 is not behind
read-ahead : IsReadRefusal one_of_each of_both (Behind 2) → ⊥
read-ahead refused = elim refused [
  | inl h ↦ absurd (let is = h.0 in cc)
  | inr rest ↦ elim rest [
    | inl h ↦ absurd (let is = h.0 in cc)
    | inr last ↦ elim last [
      | inl h ↦ absurd (let is : 2 ≡ h.0 = cc h.1 in let few = h.3 in omega arith)
      | inr h ↦ absurd (let is = h.0 in cc)
    ]
  ]
]

-- nor has a site applied fewer than came before the store
abbrev after_100 : ClusterState
after_100 = record one_of_each { before = 100 }

read-anew : IsReadRefusal after_100 (record of_both { seen = 101 }) (Behind 0) → ⊥
read-anew refused = elim refused [
  | inl h ↦ absurd (let is = h.0 in cc)
  | inr rest ↦ elim rest [
    | inl h ↦ absurd (let is = h.0 in cc)
    | inr last ↦ elim last [
      | inl h ↦ absurd (let is : 0 ≡ h.0 = cc h.1 in let enough : 100 ≤ h.0 = h.2 in omega arith)
      | inr h ↦ absurd (let is = h.0 in cc)
    ]
  ]
]

-- a site that is there is not unknown
read-known : IsReadRefusal one_of_each of_both UnknownSite → ⊥
read-known refused = elim refused [
  | inl h ↦ absurd (let is = h.0 in cc)
  | inr rest ↦ elim rest [
    | inl h ↦ absurd (let there = h.2 in omega arith)
    | inr last ↦ elim last [
      | inl h ↦ absurd (let is = h.1 in cc)
      | inr h ↦ absurd (let is = h.0 in cc)
    ]
  ]
]

-- ---- a proposal, in a store of one object at 1,000,000,000 and with no update yet

abbrev full : History
full = record { start = pos 1000000000 ∷ []; sets = [] }

abbrev past_the_range : List Change
past_the_range = record { object = 0; op = Add (pos 1) } ∷ []

abbrev of_no_object : List Change
of_no_object = record { object = 1; op = Add (pos 1) } ∷ []

abbrev at_most : ℕ → List Condition
at_most object = record { object = object; bound = AtMost (pos 1000000000) } ∷ []

-- the order of refusals: the store was stopped, an object is unknown, to the set or to a condition
requests : (request_refusal true 1 of_no_object [] ≡ Some Stopped) × (request_refusal true 1 past_the_range (at_most 1) ≡ Some Stopped)
    × (request_refusal false 1 of_no_object [] ≡ Some UnknownObject)
    × (request_refusal false 1 past_the_range (at_most 1) ≡ Some UnknownObject)
    × (request_refusal false 1 past_the_range (at_most 0) ≡ None)
requests = (refl, refl, refl, refl, refl)

-- then the condition that is not met is told, before what the log refuses
unmet-first : IsNotProposed false full past_the_range (at_most 0) (Refused OutOfRange) → ⊥
unmet-first e = elim e [
  | inl r ↦ absurd (let is = r.2 in cc)
  | inr h ↦ absurd (let is = h.1.0 in cc)
]

unmet-is : IsNotProposed false full past_the_range (at_most 0) (Unmet 0)
unmet-is = inr (refl, refl)

-- and without a condition what the log refuses
past-is : IsNotProposed false full past_the_range [] (Refused OutOfRange)
past-is = inr (refl, (refl, refl))

-- ---- a change of the limit on the count of updates to 0, in the cluster of one object, one group and one site

-- the scope is looked at before the site, and both before the lock is taken
undeclared : (undeclared_refusal one_of_each 1 (Object 1) ≡ Some UnknownObject) × (undeclared_refusal one_of_each 1 (Group 1) ≡ Some UnknownGroup)
    × (undeclared_refusal one_of_each 1 (Group 0) ≡ Some UnknownSite) × (undeclared_refusal one_of_each 1 Count ≡ Some UnknownSite)
    × (undeclared_refusal one_of_each 0 (Object 0) ≡ None) × (undeclared_refusal one_of_each 0 (Group 0) ≡ None)
undeclared = (refl, refl, refl, refl, refl, refl)

-- a limit holds from place 1 at the earliest
changed-from_0 : IsLimitPlace 0 0 Count 0 0 → ⊥
changed-from_0 from = absurd (let is : 0 ≡ 0 + from.0.acked + 1 = from.2 in omega arith)

-- and after 100 updates from place 101
changed-from_100 : IsLimitPlace 100 0 Count 0 100 → ⊥
changed-from_100 from = absurd (let is : 100 ≡ 100 + from.0.acked + 1 = from.2 in omega arith)

-- no change is refused because the store was stopped: these are its refusals, and whether each of them comes first
is-not-stopped : (unknown few pending over : Bool)
    → IsRefusal (if unknown then Some UnknownSite else option_or (if few then None else Some TooMany) (
    if pending then Some HeadPending else if over then Some LagOver else None)) Stopped → ⊥
is-not-stopped true few pending over e = absurd cc
is-not-stopped false false pending over e = absurd cc
is-not-stopped false true true over e = absurd cc
is-not-stopped false true false true e = absurd cc
is-not-stopped false true false false e = absurd cc

changed-after_stop : IsLimitChangeRefusal one_of_each 0 Count 0 Stopped → ⊥
changed-after_stop refused = elim refused [
  | inl h ↦ absurd (let is : None ≡ Some Stopped = h in cc)
  | inr h ↦ is-not-stopped _ _ _ _ h.1.2
]

-- ---- the numbers of a store before which 100 updates came: 101 to 1,000,100

first_number : IsNumber 100 101
first_number = (omega arith, omega arith)

last_number : IsNumber 100 1000100
last_number = (omega arith, omega arith)

number_before : ¬ IsNumber 100 100
number_before is = absurd (omega (arith, is.0))

number_after : ¬ IsNumber 100 1000101
number_after is = absurd (omega (arith, is.1))

-- ---- the successor of the lagging store, where 100 updates came before, and a has the limit 3 from place 2 on

abbrev ended : ClosedState
ended = record {
  before = 100;
  primary = record lagging {
    limits = (entry_of (Object 0) 5 1 ∷ entry_of (Object 0) 3 2 ∷ []) ∷ (entry_of (Object 0) 5 1 ∷ []) ∷ [];
  };
  sites = [];
}

-- It begins after 101 updates, with x at 3, and has each site's last limit from its start.
abbrev successor : ClusterState
successor = record {
  before = 101;
  start = record {
    objects = (codes "x", pos 3) ∷ [];
    groups = [];
    sites = (codes "a", 4) ∷ (codes "b", 4) ∷ [];
    limits = (entry_of (Object 0) 3 1 ∷ []) ∷ (entry_of (Object 0) 5 1 ∷ []) ∷ [];
  };
}

succeeds : (count_at_end ended ≡ 101) × (closed_successor_refusal ended ≡ None) × IsSuccessor ended successor
succeeds = (refl, refl, record { before = refl; objects = refl; values = refl; groups = refl; sites = refl; limits = refl })

-- at the initial values it does not begin
not_anew : IsSuccessor ended (record successor { start = lagging.setup }) → ⊥
not_anew is = absurd (let same : pos 0 ∷ [] ≡ pos 3 ∷ [] = is.values in cc)

-- nor while an update waits, nor after more than 10^18 updates
refuses : (closed_successor_refusal (record ended { primary = record lagging { acked = 0; decided = 0 } }) ≡ Some (NotYet 1))
    × (closed_successor_refusal (record ended { before = 999999999999999999 }) ≡ None)
    × (closed_successor_refusal (record ended { before = 1000000000000000000 }) ≡ Some LogFull)
    × (opening_refusal 1000000000000000000 lagging.setup ≡ None)
    × (opening_refusal 1000000000000000001 lagging.setup ≡ Some LogFull)
refuses = (refl, refl, refl, refl, refl)
