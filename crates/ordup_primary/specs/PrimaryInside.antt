-- A primary in the fields of a `Primary`.
use Rattle.std.specs.Prelude.{◌≡◌, ℕ, ◌+◌, ◌==◌, ◌<◌, ◌≤◌, Bool, true, false, if◌then◌else◌, List, [], ◌∷◌, ◌++◌, map, length, replicate}
use Rattle.std.specs.Prelude.{All, vec_len, vec_capacity, slice_index_or}
use Rattle.std.specs.Int.{bit_at}
use Rattle.std.specs.List.{range_with_len}
use Rattle.ordup_log.specs.Steps.{as_of}
use Rattle.ordup_objects.specs.Tables.{initial_state}
use Rattle.ordup_rounds.specs.declared.window.Window.{Window}
use Rattle.ordup_limits.specs.StoreLedgers.{HasLimits, StoreLedgerState, SiteLedgerState, StoreStandsFor}
use Rattle.ordup_limits.specs.Entries.{latest}
use Rattle.ordup_primary.specs.Declarations.{Declared}
use Rattle.ordup_primary.specs.Primaries.{PrimaryState, SiteProgress, first_progress, progress_at, limits_at, IsPrimary}
use Rattle.ordup_primary.specs.Reports.{changes_of, last_report, with_report}
use Rattle.ordup_primary.specs.declared.progress.Progress.{Progress}
use Rattle.ordup_primary.specs.declared.primary.Primary.TheInside.{Inside}

-- ---- the ledger of the store

-- the ledger is of the log and the groups, with the limits of each site, where it has reported; what is decided was added, and at
-- most the head with it
pub record HasLedger (p : PrimaryState) (l : StoreLedgerState) : Type 0 where
  pub count : length l.sites ≡ length p.sites
  pub stand : StoreStandsFor l p.log p.setup.groups
  pub decided : p.decided ≤ l.added.place
  pub added : l.added.place ≤ p.acked + 1
  pub limits : (s : ℕ) (d : SiteLedgerState) → s < length p.sites
      → HasLimits (length p.log.start) p.setup.groups (latest (limits_at p s)) (slice_index_or l.sites s d)
  pub reported : (s : ℕ) (d : SiteLedgerState) → s < length p.sites
      → (slice_index_or l.sites s d).reported.place ≡ (progress_at p s).reported

-- a primary at its start
abbrev pub first_state : Declared → PrimaryState
first_state d = record {
  setup = d;
  log = record { start = initial_state d.objects; sets = [] };
  acked = 0;
  decided = 0;
  sites = replicate (length d.sites) first_progress;
  limits = d.limits;
}

-- ---- the sites

-- what is kept of a site: of what it had reported at each decision the changes
pub record KeptSite : Type 0 where
  pub sent : ℕ
  pub reported : ℕ
  pub changes : List (ℕ × ℕ)
  pub rounds : List ℕ
  pub windows : List Window

-- a site at the start
abbrev pub first_kept : KeptSite
first_kept = record { sent = 0; reported = 0; changes = []; rounds = []; windows = [] }

-- the reports up to place n, by their changes
abbrev pub reports_upto : List (ℕ × ℕ) → ℕ → List ℕ
reports_upto changes n = map (as_of changes) (range_with_len 1 n)

-- a site where n places are decided
abbrev pub progress_upto : ℕ → KeptSite → SiteProgress
progress_upto n site = record {
  sent = site.sent;
  reported = site.reported;
  reports = reports_upto site.changes n;
  rounds = site.rounds;
  windows = site.windows;
}

-- a site once place k is decided
abbrev pub kept_at : Bool → ℕ → KeptSite → KeptSite
kept_at is_kept k site = record {
  sent = site.sent;
  reported = site.reported;
  changes = with_report site.changes k site.reported;
  rounds = if is_kept then site.rounds else site.rounds ++ k ∷ [];
  windows = if is_kept then site.windows else site.windows ++ record { from = site.reported; to = k } ∷ [];
}

-- Of each site no change is kept that is none. The mask has bits of sites alone; where it has none the last report that was put down
-- is what the site has reported.
pub record AreKept (decided moved : ℕ) (sites : List KeptSite) : Type 0 where
  pub changes : All (λ site. site.changes ≡ changes_of (reports_upto site.changes decided)) sites
  pub there : (s : ℕ) → (bit_at moved s == 1) ≡ true → s < length sites
  pub still : (s : ℕ) (d : KeptSite) → s < length sites → (bit_at moved s == 1) ≡ false
      → (slice_index_or sites s d).reported ≡ last_report (slice_index_or sites s d).changes

-- ---- the fields

module _ {A : Type 0} where
  abbrev pub kept_of : Progress A → KeptSite
  kept_of site = record {
    sent = site.sent;
    reported = site.reported;
    changes = site.reports.changes;
    rounds = site.rounds.items;
    windows = site.windows.items;
  }

  abbrev pub state_of : Inside A → PrimaryState
  state_of p = record {
    setup = p.setup;
    log = p.log;
    acked = p.acked;
    decided = p.decided;
    sites = map (progress_upto p.decided) (map kept_of p.sites.items);
    limits = p.limits.items;
  }

  -- spare capacity for one report, one round and one window more
  abbrev pub HasSpare : Progress A → Type 0
  HasSpare site =
      (0 < site.reports.spare)
      × (vec_len site.rounds < vec_capacity site.rounds)
      × (vec_len site.windows < vec_capacity site.windows)

  -- spare capacity for a decision at the sites of the mask
  abbrev pub HaveSpare : ℕ → List (Progress A) → Type 0
  HaveSpare mask sites = (s : ℕ) (d : Progress A) → (bit_at mask s == 1) ≡ true → HasSpare (slice_index_or sites s d)

  -- what the fields keep: they stand for a primary, with its ledger
  pub record KeepsPrimary (p : Inside A) : Type 0 where
    pub primary : IsPrimary (state_of p)
    pub ledger : HasLedger (state_of p) p.ledger
    pub kept : AreKept p.decided p.moved (map kept_of p.sites.items)
