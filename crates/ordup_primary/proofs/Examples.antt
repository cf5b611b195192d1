-- The definitions at small numbers, worked out by hand: no definition can change its meaning unseen.
use Rattle.std.proofs.Common.{◌≡◌, ℕ, ◌+◌, ◌-◌, Bool, pos, List, [], ◌∷◌, replicate, true, false, refl}
use Rattle.std.specs.Prelude.{Some, None, codes, nat_le, slice_index}
use Rattle.ordup_objects.specs.declared.change.Change.{Change}
use Rattle.ordup_objects.specs.declared.change.Op.TheVariants.{Add}
use Rattle.ordup_objects.specs.declared.refusal.Refusal.TheVariants.{BadName, NameTaken, UnknownObject, UnknownSite, OutOfRange}
use Rattle.ordup_objects.specs.declared.refusal.Refusal.TheVariants.{TooMany, Empty, NothingToSend, NothingToSettle, HeadPending, LagOver}
use Rattle.ordup_log.specs.declared.scope.Scope.TheVariants.{Object, Count}
use Rattle.ordup_limits.specs.Entries.{entry_of}
use Rattle.ordup_primary.specs.Declarations.{Declared, start_refusal, site_refusal, site_limit_refusal}
use Rattle.ordup_primary.specs.LimitChanges.{limit_change_refusal}
use Rattle.ordup_primary.specs.Settling.{forced_sites, waiting_sites, last_place}
use Rattle.ordup_rounds.specs.declared.window.Window.{Window}
use Rattle.ordup_rounds.specs.Rounds.{rounds_upto, windows_upto}
use Rattle.ordup_primary.specs.Primaries.{SiteProgress, PrimaryState, first_progress, reported_at, settled_as, waits_for, is_within}
use Rattle.ordup_primary.specs.Primaries.{decided_at, acked_after, send_refusal, settle_refusal, site_view, relimit_refusal, relimited}
use Rattle.ordup_primary.specs.declared.settled.Settled.TheVariants.{Acked, Round, Waiting}

-- a site may lag by one update more than its place says
abbrev lags : ℕ → ℕ → ℕ → Bool
lags s a b = nat_le (b - a) (s + 1)

-- At place 3, with nothing reported, the sites 0 and 1 are forced; site 1 is not where it has reported 1.
forced : (forced_sites lags (λ s. 0) 3 3 ≡ 0 ∷ 1 ∷ [])
    × (forced_sites lags (slice_index (0 ∷ 1 ∷ 0 ∷ [])) 3 3 ≡ 0 ∷ [])
    × (forced_sites lags (λ s. 3) 3 3 ≡ [])
forced = (refl, refl, refl)

-- Of those two the one that has since reported 2 is still waited for, and the one that has reported 3 is not; site 2 was not
-- forced.
waiting : (waiting_sites lags (λ s. 0) (slice_index (2 ∷ 3 ∷ 0 ∷ [])) 3 3 ≡ 0 ∷ [])
    × (waiting_sites lags (λ s. 0) (λ s. 2) 3 3 ≡ 0 ∷ 1 ∷ [])
    × (waiting_sites lags (λ s. 0) (λ s. 3) 3 3 ≡ [])
waiting = (refl, refl, refl)

abbrev window : ℕ → ℕ → Window
window from to = record { from = from; to = to }

-- a site to which 5 updates were sent, with what it has reported, what it had reported at decisions, its rounds and their windows
abbrev with_windows : ℕ → List ℕ → List ℕ → List Window → SiteProgress
with_windows reported reports rounds windows =
    record { sent = 5; reported = reported; reports = reports; rounds = rounds; windows = windows }

-- one without windows
abbrev site : ℕ → List ℕ → List ℕ → SiteProgress
site reported reports rounds = with_windows reported reports rounds []

-- 0, 0, 2 and 2 were reported at the decisions of the places 1 to 4
abbrev reports : ℕ → ℕ
reports = reported_at (site 2 (0 ∷ 0 ∷ 2 ∷ 2 ∷ []) [])

-- so a site that may lag by 1 was forced at 2 and at 4
rounds : (rounds_upto (lags 0) reports 4 ≡ 2 ∷ 4 ∷ [])
    × (rounds_upto (lags 0) reports 3 ≡ 2 ∷ [])
    × (last_place (2 ∷ 4 ∷ []) ≡ 4)
    × (last_place [] ≡ 0)
rounds = (refl, refl, refl, refl)

-- from what it had reported to the place
windows : windows_upto (lags 0) reports 4 ≡ window 0 2 ∷ window 2 4 ∷ []
windows = refl

-- a decision puts down what is reported, and a round with its window where the span to it is not kept
decided :
    (decided_at false 3 (site 2 (0 ∷ 1 ∷ []) (2 ∷ [])) ≡ with_windows 2 (0 ∷ 1 ∷ 2 ∷ []) (2 ∷ 3 ∷ []) (window 2 3 ∷ []))
    × (decided_at true 3 (site 2 (0 ∷ 1 ∷ []) (2 ∷ [])) ≡ site 2 (0 ∷ 1 ∷ 2 ∷ []) (2 ∷ []))
    × (acked_after 1 [] ≡ 2) × (acked_after 1 (0 ∷ []) ≡ 1)
decided = (refl, refl, refl, refl)

-- x at 0, and a site a of capacity 4 with a limit of 5 on x
abbrev setup : Declared
setup = record {
  objects = (codes "x", pos 0) ∷ [];
  groups = [];
  sites = (codes "a", 4) ∷ [];
  limits = (record { limit = record { scope = Object 0; amount = 5 }; place = 1 } ∷ []) ∷ [];
}

abbrev add : ℕ → List Change
add n = record { object = 0; op = Add (pos n) } ∷ []

-- 5 is added to x, and then 1
abbrev primary : ℕ → ℕ → SiteProgress → PrimaryState
primary acked decided s = record {
  setup = setup;
  log = record { start = pos 0 ∷ []; sets = add 5 ∷ add 1 ∷ [] };
  acked = acked;
  decided = decided;
  sites = s ∷ [];
  limits = setup.limits;
}

-- equal is not over; 6 is, unless 1 was reported in time; and a report that comes late is waited for up to the head
settled : (settled_as (primary 0 0 (site 0 [] [])) ≡ Acked 1)
    × (settled_as (primary 1 1 (site 0 (0 ∷ []) [])) ≡ Round 2 (0 ∷ []))
    × (settled_as (primary 1 1 (site 1 (0 ∷ []) [])) ≡ Acked 2)
    × (settled_as (primary 1 2 (site 1 (0 ∷ 0 ∷ []) (2 ∷ []))) ≡ Waiting 2 (0 ∷ []))
    × (settled_as (primary 1 2 (site 2 (0 ∷ 0 ∷ []) (2 ∷ []))) ≡ Acked 2)
settled = (refl, refl, refl, refl, refl)

-- a decided head waits for a site that it forced until the site has reported it, and not for one that had reported enough; a head
-- that is not decided waits for none
waits : (waits_for (primary 1 2 (site 1 (0 ∷ 0 ∷ []) (2 ∷ []))) 0 ≡ true)
    × (waits_for (primary 1 2 (site 2 (0 ∷ 0 ∷ []) (2 ∷ []))) 0 ≡ false)
    × (waits_for (primary 1 2 (site 1 (0 ∷ 1 ∷ []) [])) 0 ≡ false)
    × (waits_for (primary 1 1 (site 0 (0 ∷ []) [])) 0 ≡ false)
waits = (refl, refl, refl, refl)

-- of two updates both, or one, are acknowledged; and both, or one, were sent
nothing_left : (settle_refusal (primary 2 2 first_progress) ≡ Some NothingToSettle)
    × (settle_refusal (primary 1 2 first_progress) ≡ None)
    × (send_refusal (primary 0 0 (record first_progress { sent = 2 })) 0 ≡ Some NothingToSend)
    × (send_refusal (primary 0 0 (record first_progress { sent = 1 })) 0 ≡ None)
nothing_left = (refl, refl, refl, refl)

-- the order of the refusals of a site, and of a limit of one: each of these could be refused later too
refusals : (site_refusal (replicate 16 (codes "a", 4)) (codes "A") 0 ≡ Some BadName)
    × (site_refusal (replicate 16 (codes "a", 4)) (codes "a") 0 ≡ Some NameTaken)
    × (site_refusal (replicate 16 (codes "a", 4)) (codes "b") 0 ≡ Some OutOfRange)
    × (site_refusal [] (codes "b") 1025 ≡ Some OutOfRange)
    × (site_refusal (replicate 16 (codes "a", 4)) (codes "b") 1024 ≡ Some TooMany)
    × (site_refusal (replicate 15 (codes "a", 4)) (codes "b") 1 ≡ None)
    × (site_limit_refusal setup 1 (Object 1) 1000000000000000001 ≡ Some UnknownObject)
    × (site_limit_refusal setup 1 Count 1000000000000000001 ≡ Some UnknownSite)
    × (site_limit_refusal setup 0 Count 1000000000000000001 ≡ Some OutOfRange)
    × (start_refusal (record setup { sites = [] }) ≡ Some Empty)
    × (start_refusal (record setup { objects = [] }) ≡ Some Empty)
    × (start_refusal setup ≡ None)
refusals = (refl, refl, refl, refl, refl, refl, refl, refl, refl, refl, refl, refl)

-- the order of the refusals of a change of a limit: 5 is acknowledged and not reported, so no less than 5 may be the limit on x
relimit_refusals : (relimit_refusal (primary 1 2 (site 0 (0 ∷ 0 ∷ []) (2 ∷ []))) 0 (Object 1) 1000000000000000001 ≡ Some UnknownObject)
    × (relimit_refusal (primary 1 2 (site 0 (0 ∷ 0 ∷ []) (2 ∷ []))) 0 Count 1000000000000000001 ≡ Some OutOfRange)
    × (relimit_refusal (primary 1 2 (site 0 (0 ∷ 0 ∷ []) (2 ∷ []))) 0 (Object 0) 4 ≡ Some HeadPending)
    × (relimit_refusal (primary 1 1 (site 0 (0 ∷ []) [])) 0 (Object 0) 4 ≡ Some LagOver)
    × (relimit_refusal (primary 1 1 (site 0 (0 ∷ []) [])) 0 Count 0 ≡ Some LagOver)
    × (relimit_refusal (primary 1 1 (site 0 (0 ∷ []) [])) 0 (Object 0) 5 ≡ None)
    × (relimit_refusal (primary 1 1 (site 1 (0 ∷ []) [])) 0 (Object 0) 0 ≡ None)
relimit_refusals = (refl, refl, refl, refl, refl, refl, refl)

-- the scope is looked at before the site, and the site before the amount
change_refusals : (limit_change_refusal (site_view (primary 1 2 first_progress) 1) (Object 1) 1000000000000000001 ≡ Some UnknownObject)
    × (limit_change_refusal (site_view (primary 1 2 first_progress) 1) Count 1000000000000000001 ≡ Some UnknownSite)
    × (limit_change_refusal (site_view (primary 1 2 first_progress) 0) Count 1000000000000000001 ≡ Some OutOfRange)
    × (limit_change_refusal (site_view (primary 1 1 first_progress) 0) (Object 0) 5 ≡ None)
change_refusals = (refl, refl, refl, refl)

-- a change holds from the head on: with 1 reported the second update is within 5, and not within 0; at place 1 the limit stays 5
relimits : ((relimited (primary 1 1 (site 1 (0 ∷ []) [])) 0 (Object 0) 0).limits
    ≡ (entry_of (Object 0) 5 1 ∷ entry_of (Object 0) 0 2 ∷ []) ∷ [])
    × ((relimited (primary 0 0 (site 0 [] [])) 0 (Object 0) 9).limits ≡ (entry_of (Object 0) 9 1 ∷ []) ∷ [])
    × (settled_as (primary 1 1 (site 1 (0 ∷ []) [])) ≡ Acked 2)
    × (settled_as (relimited (primary 1 1 (site 1 (0 ∷ []) [])) 0 (Object 0) 0) ≡ Round 2 (0 ∷ []))
    × (is_within (relimited (primary 1 1 (site 1 (0 ∷ []) [])) 0 (Object 0) 0) 0 0 1 ≡ true)
relimits = (refl, refl, refl, refl, refl)
