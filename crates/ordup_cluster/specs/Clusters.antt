-- What contracts see of a cluster, of what is left of it, and how its successor begins.
use Rattle.std.specs.Prelude.{◌≡◌, ℕ, ◌+◌, ◌*◌, ◌<◌, Option, Some, None, List, length, slice_get, true, if◌then◌else◌, nat_lt}
use Rattle.std.specs.Option.{option_or}
use Rattle.ordup_objects.specs.Serial.{serial}
use Rattle.ordup_objects.specs.Tables.{initial_state, names_of}
use Rattle.ordup_objects.specs.declared.refusal.Refusal.{Refusal}
use Rattle.ordup_objects.specs.declared.refusal.Refusal.TheVariants.{LogFull}
use Rattle.ordup_primary.specs.Declarations.{Declared, start_refusal}
use Rattle.ordup_primary.specs.Successors.{limits_from_start, successor_refusal}
use Rattle.ordup_primary.specs.Primaries.{PrimaryState, IsPrimary, is_lag_within}
use Rattle.ordup_site.specs.Sites.{SiteState}
use Rattle.ordup_holds.specs.Agreement.{Agrees}

-- how many updates may come before a store
abbrev pub most_before : ℕ
most_before = 1000000000 * 1000000000

-- How many updates came before the store, and the declarations that it was opened with. What lies under a lock no contract sees.
pub record ClusterState : Type 0 where
  pub before : ℕ
  pub start : Declared

-- how many updates came before a closed cluster, its primary and its sites
pub record ClosedState : Type 0 where
  pub before : ℕ
  pub primary : PrimaryState
  pub sites : List SiteState

-- the first n of these sites agree with a primary
abbrev pub AgreeBelow : ℕ → PrimaryState → List SiteState → Type 0
AgreeBelow n p sites = (s : ℕ) (x : SiteState) → s < n → slice_get sites s ≡ Some x → Agrees p s x

-- site s does not agree with a primary, and those before it do
pub record IsFirstMixed (p : PrimaryState) (sites : List SiteState) (s : ℕ) : Type 0 where
  pub there : s < length sites
  pub before : AgreeBelow s p sites
  pub mixed : (x : SiteState) → slice_get sites s ≡ Some x → Agrees p s x → ⊥

-- There are the sites of the primary. Each agrees with it, and the acknowledged updates that a site has not applied keep its
-- limits, as they are at the end.
pub record IsClosed (c : ClosedState) : Type 0 where
  pub sound : IsPrimary c.primary
  pub count : length c.sites ≡ length c.primary.sites
  pub agrees : (s : ℕ) (x : SiteState) → slice_get c.sites s ≡ Some x → Agrees c.primary s x
  pub within : (s : ℕ) (x : SiteState) → slice_get c.sites s ≡ Some x → is_lag_within c.primary s x.applied ≡ true

-- why no store is opened after this many updates, if none is
abbrev pub count_refusal : ℕ → Option Refusal
count_refusal before = if nat_lt most_before before then Some LogFull else None

-- and why none is with these declarations
abbrev pub opening_refusal : ℕ → Declared → Option Refusal
opening_refusal before d = option_or (count_refusal before) (start_refusal d)

-- how many updates there were up to the end of a closed cluster
abbrev pub count_at_end : ClosedState → ℕ
count_at_end closed = closed.before + length closed.primary.log.sets

-- A store is the successor of a closed one: it begins after all its updates, with the same objects, each at its value after the
-- whole log, the same groups and sites, and each site's last limits, in force from the start.
pub record IsSuccessor (closed : ClosedState) (successor : ClusterState) : Type 0 where
  pub before : successor.before ≡ count_at_end closed
  pub objects : names_of successor.start.objects ≡ names_of closed.primary.setup.objects
  pub values : initial_state successor.start.objects ≡ serial closed.primary.log (length closed.primary.log.sets)
  pub groups : successor.start.groups ≡ closed.primary.setup.groups
  pub sites : successor.start.sites ≡ closed.primary.setup.sites
  pub limits : successor.start.limits ≡ limits_from_start closed.primary.limits

-- why a closed store has no successor, if it has none: there are no more numbers, or an update waits
abbrev pub closed_successor_refusal : ClosedState → Option Refusal
closed_successor_refusal closed = option_or (count_refusal (count_at_end closed)) (successor_refusal closed.primary)
