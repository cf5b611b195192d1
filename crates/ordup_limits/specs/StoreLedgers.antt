-- The ledger of a store: what is kept to tell which of its sites lag by more than a limit.
use Rattle.std.specs.Prelude.{◌≡◌, ℕ, ◌+◌, ◌-◌, ◌*◌, ◌<◌, ◌≤◌, ◌==◌, ◌||◌, if◌then◌else◌, Bool, true, false, not, All}
use Rattle.std.specs.Prelude.{List, [], ◌∷◌, length, nat_lt, slice_index, slice_index_or, slice_set}
use Rattle.std.specs.Int.{bit_at}
use Rattle.std.specs.List.{list_any}
use Rattle.ordup_objects.specs.declared.change.Change.{Change}
use Rattle.ordup_objects.specs.declared.moved.Moved.{Moved}
use Rattle.ordup_objects.specs.Repeats.{repeats}
use Rattle.ordup_objects.specs.Serial.{History}
use Rattle.ordup_objects.specs.Sizes.{greatest_weight, most_groups, most_objects, most_sites, most_updates}
use Rattle.ordup_log.specs.Groups.{GroupList, members_at}
use Rattle.ordup_log.specs.Spans.{span, IsScopeKnown}
use Rattle.ordup_log.specs.declared.scope.Scope.{Scope}
use Rattle.ordup_log.specs.declared.scope.Scope.TheVariants.{Object, Group, All as Everything, Count}
use Rattle.ordup_limits.specs.declared.limit.Limit.{Limit}
use Rattle.ordup_limits.specs.Entries.{latest, put, AreEntriesKnown, Entries}
use Rattle.ordup_limits.specs.Limits.{Limits, are_on_one_scope, is_same_scope, within, AreScopesKnown}
use Rattle.ordup_limits.specs.Masks.{counts_on, AreGroupMasks}
use Rattle.ordup_limits.specs.Sizes.{greatest_amount}
use Rattle.ordup_limits.specs.Totals.{kept_amount, share}

-- ---- scopes by number

-- the scopes that there may be
abbrev pub most_scopes : ℕ
most_scopes = most_objects + most_groups + 2

-- the number of a scope: first the objects, then the groups, then all objects and the count of updates
abbrev pub scope_index : Scope → ℕ
scope_index (Object x) = x
scope_index (Group g) = most_objects + g
scope_index Everything = most_objects + most_groups
scope_index Count = most_objects + most_groups + 1

-- ---- weights up to a place

-- a place of a log, with what the updates up to it weigh on each scope, by its number
pub record WeightsAt : Type 0 where
  pub place : ℕ
  pub totals : List ℕ

-- the place is in the log, and the weights are those of this log and these groups
pub record AreWeights (w : WeightsAt) (h : History) (groups : GroupList) : Type 0 where
  pub last : w.place ≤ length h.sets
  pub each : (scope : Scope) → IsScopeKnown (length h.start) groups scope
      → slice_index w.totals (scope_index scope) ≡ span h groups scope 0 w.place

-- on no scope is there more than a log may weigh
abbrev pub AreFew : WeightsAt → History → GroupList → Type 0
AreFew w h groups =
    (scope : Scope) → IsScopeKnown (length h.start) groups scope → slice_index w.totals (scope_index scope) ≤ greatest_weight * most_updates

-- totals with a weight more on a scope
abbrev pub raised_on : Scope → ℕ → List ℕ → List ℕ
raised_on scope weight totals = slice_set totals (scope_index scope) (slice_index totals (scope_index scope) + weight)

-- weights with a move more, on each scope on which its object counts
abbrev pub GainMove : History → GroupList → Moved → WeightsAt → WeightsAt → Type 0
GainMove h groups moved old new =
    (scope : Scope) → IsScopeKnown (length h.start) groups scope
    → slice_index new.totals (scope_index scope)
    ≡ slice_index old.totals (scope_index scope) + share (counts_on groups scope moved.object) moved.distance

-- ---- amounts by scope

-- the amount of the limit on a scope; without one the greatest amount, which no log passes
abbrev pub amount_on : Limits → Scope → ℕ
amount_on [] scope = greatest_amount
amount_on (l ∷ limits) scope = if is_same_scope l.scope scope then kept_amount l else amount_on limits scope

-- the amounts by the numbers of the scopes are those of these limits
abbrev pub HaveAmounts : ℕ → GroupList → Limits → List ℕ → Type 0
HaveAmounts n groups limits amounts =
    (scope : Scope) → IsScopeKnown n groups scope → slice_index amounts (scope_index scope) ≡ amount_on limits scope

-- ---- sites

-- what a site has reported, and the amounts of its limits
pub record SiteLedgerState : Type 0 where
  pub reported : WeightsAt
  pub amounts : List ℕ

-- up to which weight of the log the limit of a site on a scope is kept
abbrev pub allowed : History → GroupList → SiteLedgerState → Scope → ℕ
allowed h groups site scope = slice_index site.amounts (scope_index scope) + span h groups scope 0 site.reported.place

-- a site's amounts are those of these limits, each of which is on a known scope of its own
pub record HasLimits (n : ℕ) (groups : GroupList) (limits : Limits) (site : SiteLedgerState) : Type 0 where
  pub known : AreScopesKnown n groups limits
  pub distinct : repeats are_on_one_scope limits ≡ false
  pub amounts : HaveAmounts n groups limits site.amounts

-- a site with the limits of these entries that has reported nothing
pub record IsFirstSite (groups : GroupList) (entries : Entries) (site : SiteLedgerState) : Type 0 where
  pub place : site.reported.place ≡ 0
  pub weights : (h : History) (gs : GroupList) → AreWeights site.reported h gs
  pub limits : (n : ℕ) → n ≤ most_objects → AreEntriesKnown n groups entries → HasLimits n groups (latest entries) site

-- the sites with the limits of these tables, none of which has reported
abbrev pub AreFirstSites : GroupList → List Entries → List SiteLedgerState → Type 0
AreFirstSites groups tables sites =
    (s : ℕ) (d : SiteLedgerState) → s < length tables → IsFirstSite groups (slice_index_or tables s []) (slice_index_or sites s d)

-- ---- which sites pass a limit

-- a change of object x counts on a scope of its own or of a group
abbrev pub counts_within : GroupList → ℕ → Scope → Bool
counts_within groups x (Object y) = y == x
counts_within groups x (Group g) = list_any (λ y. y == x) (members_at groups g)
counts_within groups x Everything = false
counts_within groups x Count = false

-- an update with these changes may weigh on a scope
abbrev pub may_weigh : GroupList → List Change → Scope → Bool
may_weigh groups changes scope =
    is_same_scope Everything scope || is_same_scope Count scope || list_any (λ c. counts_within groups c.object scope) changes

-- a mask has a bit for each site that the updates up to a place take over a limit on a scope of this test, and no other bit than for
-- a site that they take over a limit
pub record AreOver (h : History) (groups : GroupList) (place : ℕ) (sites : List SiteLedgerState) (test : Scope → Bool) (mask : ℕ) : Type 0 where
  pub some : (s : ℕ) (d : SiteLedgerState) → s < length sites → (bit_at mask s == 1) ≡ true
      → (scope : Scope) × (IsScopeKnown (length h.start) groups scope
      × (allowed h groups (slice_index_or sites s d) scope < span h groups scope 0 place))
  pub there : (s : ℕ) → (bit_at mask s == 1) ≡ true → s < length sites
  pub each : (s : ℕ) (d : SiteLedgerState) (scope : Scope) → s < length sites → IsScopeKnown (length h.start) groups scope
      → test scope ≡ true → allowed h groups (slice_index_or sites s d) scope < span h groups scope 0 place
      → (bit_at mask s == 1) ≡ true

-- a mask has the bits of the sites that are allowed less than a weight on a scope
pub record AreBelow (h : History) (groups : GroupList) (sites : List SiteLedgerState) (scope : Scope) (weight mask : ℕ) : Type 0 where
  pub each : (s : ℕ) (d : SiteLedgerState) → s < length sites
      → (bit_at mask s == 1) ≡ nat_lt (allowed h groups (slice_index_or sites s d) scope) weight
  pub there : (s : ℕ) → (bit_at mask s == 1) ≡ true → s < length sites

-- weights by the numbers of the scopes up to which each site keeps its limits
abbrev pub AreKept : History → GroupList → List SiteLedgerState → List ℕ → Type 0
AreKept h groups sites least =
    (s : ℕ) (d : SiteLedgerState) (scope : Scope) → s < length sites → IsScopeKnown (length h.start) groups scope
    → slice_index least (scope_index scope) ≤ allowed h groups (slice_index_or sites s d) scope

-- a site lags by no more than these limits at a place of the log
abbrev pub lags_within : History → GroupList → Limits → SiteLedgerState → ℕ → Bool
lags_within h groups limits site place = within h groups limits site.reported.place place

-- whether the update at a place takes a site with these limits over one of them, if it was over none before
abbrev pub TellsOver : History → GroupList → ℕ → Limits → SiteLedgerState → Bool → Type 0
TellsOver h groups place limits site is_over =
    HasLimits (length h.start) groups limits site → lags_within h groups limits site (place - 1) ≡ true
    → is_over ≡ not (lags_within h groups limits site place)

-- the bits of a mask tell of each site whether the update at a place takes it over a limit, if it was over none before
abbrev pub BitsTellOver : History → GroupList → ℕ → List SiteLedgerState → ℕ → Type 0
BitsTellOver h groups place sites mask =
    (s : ℕ) (d : SiteLedgerState) (limits : Limits) → s < length sites
    → TellsOver h groups place limits (slice_index_or sites s d) (bit_at mask s == 1)

-- ---- what becomes of the sites

-- all sites but site s stay as they are
abbrev pub OthersStay : ℕ → List SiteLedgerState → List SiteLedgerState → Type 0
OthersStay s old new =
    (t : ℕ) (d : SiteLedgerState) → (t ≡ s → ⊥) → slice_index_or new t d ≡ slice_index_or old t d

-- what is read of site s stays as it is
abbrev pub StaysAt : {X : Type 0} → ℕ → (SiteLedgerState → X) → List SiteLedgerState → List SiteLedgerState → Type 0
StaysAt s read old new = (d : SiteLedgerState) → read (slice_index_or new s d) ≡ read (slice_index_or old s d)

-- whatever limits site s has, it comes to have them with this one put in
abbrev pub GainsLimit : ℕ → GroupList → Limit → ℕ → List SiteLedgerState → List SiteLedgerState → Type 0
GainsLimit n groups l s old new =
    (limits : Limits) (d : SiteLedgerState) → HasLimits n groups limits (slice_index_or old s d)
    → HasLimits n groups (put are_on_one_scope limits l) (slice_index_or new s d)

-- ---- the store

-- for each object the mask of its groups, what the updates up to a place weigh, the sites, and weights up to which all keep their
-- limits
pub record StoreLedgerState : Type 0 where
  pub masks : List ℕ
  pub added : WeightsAt
  pub sites : List SiteLedgerState
  pub kept : List ℕ

-- what each store ledger keeps
pub record IsStoreLedger (l : StoreLedgerState) : Type 0 where
  pub few : length l.sites ≤ most_sites
  pub kept : length l.kept ≡ most_scopes

-- a store ledger is of this history and these groups
pub record StoreStandsFor (l : StoreLedgerState) (h : History) (groups : GroupList) : Type 0 where
  pub objects : length h.start ≤ most_objects
  pub masks : AreGroupMasks groups l.masks
  pub added : AreWeights l.added h groups
  pub sites : All (λ site. AreWeights site.reported h groups) l.sites
  pub kept : AreKept h groups l.sites l.kept
