-- What a primary holds, and what a settlement makes of it.
use Rattle.std.specs.Prelude.{◌≡◌, ℕ, ◌+◌, ◌<◌, ◌≤◌, ◌==◌, Bool, true, false}
use Rattle.std.specs.Prelude.{if◌then◌else◌, Option, Some, None, List, [], ◌∷◌, ◌++◌, ◌&&◌}
use Rattle.std.specs.Prelude.{length, slice_index_or, slice_set, nat_lt, All}
use Rattle.ordup_objects.specs.declared.refusal.Refusal.{Refusal}
use Rattle.ordup_objects.specs.declared.refusal.Refusal.TheVariants.{NothingToSend, NothingToSettle}
use Rattle.ordup_objects.specs.Sizes.{most_updates}
use Rattle.ordup_objects.specs.Tables.{initial_state}
use Rattle.ordup_objects.specs.Serial.{History, IsLegalHistory}
use Rattle.ordup_rounds.specs.declared.window.Window.{Window}
use Rattle.ordup_rounds.specs.Rounds.{rounds_upto, windows_upto, AreRoundsReported}
use Rattle.ordup_rounds.specs.Fewest.{AreFewest}
use Rattle.ordup_limits.specs.Limits.{within}
use Rattle.ordup_limits.specs.Entries.{Entries, entry_of, in_force, latest, changed, HoldFrom, AreEntriesKnown}
use Rattle.ordup_log.specs.declared.scope.Scope.{Scope}
use Rattle.ordup_primary.specs.Declarations.{Declared, is_ready}
use Rattle.ordup_primary.specs.Settling.{forced_sites, is_awaited, waiting_sites, report_at}
use Rattle.ordup_primary.specs.LimitChanges.{SiteView, site_change_refusal}
use Rattle.ordup_primary.specs.declared.settled.Settled.{Settled}
use Rattle.ordup_primary.specs.declared.settled.Settled.TheVariants.{Acked, Round, Waiting}

-- what the primary knows of a site: how many updates were sent to it, how many it last reported, what it had reported at the
-- decision of each place, its rounds, and a window for each of them
pub record SiteProgress : Type 0 where
  pub sent : ℕ
  pub reported : ℕ
  pub reports : List ℕ
  pub rounds : List ℕ
  pub windows : List Window

-- the declarations, the log, how many updates are acknowledged and how many are decided, the sites in order of declaration, and the
-- limits of each
pub record PrimaryState : Type 0 where
  pub setup : Declared
  pub log : History
  pub acked : ℕ
  pub decided : ℕ
  pub sites : List SiteProgress
  pub limits : List Entries

-- a site at the start
abbrev pub first_progress : SiteProgress
first_progress = record { sent = 0; reported = 0; reports = []; rounds = []; windows = [] }

abbrev pub progress_at : PrimaryState → ℕ → SiteProgress
progress_at p s = slice_index_or p.sites s first_progress

-- what a site had reported at the decision of place k
abbrev pub reported_at : SiteProgress → ℕ → ℕ
reported_at site k = report_at site.reports k

-- the limits of site s
abbrev pub limits_at : PrimaryState → ℕ → Entries
limits_at p s = slice_index_or p.limits s []

-- the span from a to b passes none of the limits of site s that are in force at b
abbrev pub is_within : PrimaryState → ℕ → ℕ → ℕ → Bool
is_within p s a b = within p.log p.setup.groups (in_force (limits_at p s) b) a b

-- the acknowledged updates after place a pass none of the limits of site s that are in force now
abbrev pub is_lag_within : PrimaryState → ℕ → ℕ → Bool
is_lag_within p s a = within p.log p.setup.groups (latest (limits_at p s)) a p.acked

-- the sites that a first settlement of the head forces
abbrev pub forced_now : PrimaryState → List ℕ
forced_now p = forced_sites (is_within p) (λ s. (progress_at p s).reported) (length p.sites) (p.acked + 1)

-- the sites that a later settlement of the head waits for
abbrev pub waiting_now : PrimaryState → List ℕ
waiting_now p =
    waiting_sites (is_within p) (λ s. reported_at (progress_at p s) (p.acked + 1)) (λ s. (progress_at p s).reported) (length p.sites)
    (p.acked + 1)

-- the head waits for site s: it is decided and not acknowledged, it forced the site, and the site has not reported it
abbrev pub waits_for : PrimaryState → ℕ → Bool
waits_for p s =
    nat_lt p.acked p.decided
    && is_awaited (is_within p) (λ t. reported_at (progress_at p t) (p.acked + 1)) (λ t. (progress_at p t).reported) (p.acked + 1) s

-- an acknowledgement where no site holds the head up
abbrev pub acked_or_round : ℕ → List ℕ → Settled
acked_or_round k [] = Acked k
acked_or_round k (s ∷ sites) = Round k (s ∷ sites)

abbrev pub acked_or_waiting : ℕ → List ℕ → Settled
acked_or_waiting k [] = Acked k
acked_or_waiting k (s ∷ sites) = Waiting k (s ∷ sites)

-- what a settlement of the head answers
abbrev pub settled_as : PrimaryState → Settled
settled_as p = if p.acked == p.decided then acked_or_round (p.acked + 1) (forced_now p) else acked_or_waiting (p.acked + 1) (waiting_now p)

-- how many updates are acknowledged where these sites hold the head up
abbrev pub acked_after : ℕ → List ℕ → ℕ
acked_after acked [] = acked + 1
acked_after acked (s ∷ sites) = acked

-- why there is nothing to send to a site, if there is not
abbrev pub send_refusal : PrimaryState → ℕ → Option Refusal
send_refusal p s = if (progress_at p s).sent == length p.log.sets then Some NothingToSend else None

-- why there is nothing to settle, if there is not
abbrev pub settle_refusal : PrimaryState → Option Refusal
settle_refusal p = if p.acked == length p.log.sets then Some NothingToSettle else None

-- what a change of a limit of site s is judged by
abbrev pub site_view : PrimaryState → ℕ → SiteView
site_view p s = record {
  site = s;
  setup = p.setup;
  log = p.log;
  acked = p.acked;
  decided = p.decided;
  limits = limits_at p s;
  reported = (progress_at p s).reported;
}

-- why a change of a limit of site s, which is declared, is refused, if it is
abbrev pub relimit_refusal : PrimaryState → ℕ → Scope → ℕ → Option Refusal
relimit_refusal p s scope amount = site_change_refusal (site_view p s) scope amount

-- the limit of site s on a scope is changed from the head on
abbrev pub relimited : PrimaryState → ℕ → Scope → ℕ → PrimaryState
relimited p s scope amount = record p { limits = slice_set p.limits s (changed (limits_at p s) (entry_of scope amount (p.acked + 1))) }

-- a site once place k is decided
abbrev pub decided_at : Bool → ℕ → SiteProgress → SiteProgress
decided_at is_kept k site = record {
  sent = site.sent;
  reported = site.reported;
  reports = site.reports ++ site.reported ∷ [];
  rounds = if is_kept then site.rounds else site.rounds ++ k ∷ [];
  windows = if is_kept then site.windows else site.windows ++ record { from = site.reported; to = k } ∷ [];
}

-- The first settlement of the head leaves it decided: at each site its report is put down, and where the span from it to the head
-- passes a limit, a round with the window from the one to the other. It is acknowledged where no site is forced.
pub record Decides (p q : PrimaryState) : Type 0 where
  pub setup : q.setup ≡ p.setup
  pub log : q.log ≡ p.log
  pub limits : q.limits ≡ p.limits
  pub acked : q.acked ≡ acked_after p.acked (forced_now p)
  pub decided : q.decided ≡ p.acked + 1
  pub count : length q.sites ≡ length p.sites
  pub sites : (s : ℕ) (d : SiteProgress) → s < length p.sites
      → slice_index_or q.sites s d
      ≡ decided_at (is_within p s (progress_at p s).reported (p.acked + 1)) (p.acked + 1) (slice_index_or p.sites s d)

-- What a primary keeps of a site, where `keeps a b` says whether the span from a to b passes no limit of the site: each
-- acknowledged round was reported.
pub record IsSiteSound (keeps : ℕ → ℕ → Bool) (updates acked decided : ℕ) (site : SiteProgress) : Type 0 where
  pub reported : site.reported ≤ site.sent
  pub sent : site.sent ≤ updates
  pub count : length site.reports ≡ decided
  pub risen : (k : ℕ) → slice_index_or site.reports k 0 ≤ site.reported
  pub rounds : site.rounds ≡ rounds_upto keeps (reported_at site) decided
  pub windows : site.windows ≡ windows_upto keeps (reported_at site) decided
  pub answered : (k : ℕ) → 0 < k → k ≤ acked → keeps (reported_at site k) k ≡ false → k ≤ site.reported
  pub rising : (j k : ℕ) → j ≤ k → k < decided → slice_index_or site.reports j 0 ≤ slice_index_or site.reports k 0
  pub before : AreRoundsReported keeps (reported_at site) decided

-- What each primary keeps. The limits of a site hold from the head or before; what is acknowledged and the site has not reported
-- passes none of them.
pub record IsPrimary (p : PrimaryState) : Type 0 where
  pub ready : is_ready p.setup ≡ true
  pub start : p.log.start ≡ initial_state p.setup.objects
  pub legal : IsLegalHistory p.log
  pub few : length p.log.sets ≤ most_updates
  pub count : length p.sites ≡ length p.setup.sites
  pub tables : length p.limits ≡ length p.sites
  pub acked : p.acked ≤ p.decided
  pub next : p.decided ≤ p.acked + 1
  pub decided : p.decided ≤ length p.log.sets
  pub known : All (AreEntriesKnown (length p.setup.objects) p.setup.groups) p.limits
  pub begun : All (HoldFrom (p.acked + 1)) p.limits
  pub lags : (s : ℕ) → s < length p.sites → is_lag_within p s (progress_at p s).reported ≡ true
  pub sites : (s : ℕ) (d : SiteProgress) → s < length p.sites
      → IsSiteSound (is_within p s) (length p.log.sets) p.acked p.decided (slice_index_or p.sites s d)

-- the rounds of each site are the fewest of any schedule that keeps its limits, as its windows show
abbrev pub HasFewestRounds : PrimaryState → Type 0
HasFewestRounds p =
    (s : ℕ) → s < length p.sites →
    AreFewest (is_within p s) (reported_at (progress_at p s)) p.decided (progress_at p s).rounds (progress_at p s).windows
