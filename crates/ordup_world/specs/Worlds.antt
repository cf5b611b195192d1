-- What a world holds, and for which accepted events it stands.
use Rattle.std.specs.Prelude.{◌≡◌, ℕ, ℤ, ◌+◌, ◌<◌, ◌≤◌, true, Option}
use Rattle.std.specs.Prelude.{Some, option_map, List, length, replicate, slice_index_or}
use Rattle.std.specs.Map.{lookup}
use Rattle.ordup_objects.specs.Tables.{initial_state}
use Rattle.ordup_objects.specs.Serial.{History, serial}
use Rattle.ordup_primary.specs.Declarations.{Declared, capacity_of}
use Rattle.ordup_primary.specs.Primaries.{PrimaryState, SiteProgress, IsPrimary, progress_at, is_lag_within}
use Rattle.ordup_site.specs.Sites.{SiteState, HoldsPrefix}
use Rattle.ordup_objects.specs.Marks.{AreMarks}
use Rattle.ordup_query.specs.Queries.{QueryState, value_sum}
use Rattle.ordup_world.specs.Sizes.{most_queries}
use Rattle.ordup_world.specs.Queries.{Opened, import_total, values_read}
use Rattle.ordup_world.specs.Events.{Past, is_same, sent, applied, reported, log_of, decisions, rounds, windows, opened, open_count}

-- the primary, and the sites in order of declaration
pub record StoreState : Type 0 where
  pub primary : PrimaryState
  pub sites : List SiteState

-- an open query and its site
pub record OpenState : Type 0 where
  pub site : ℕ
  pub query : QueryState

-- the open queries by their names
abbrev pub Queries : Type 0
Queries = List (List ℕ × OpenState)

-- the open query of a name, if there is one
abbrev pub find_query : List ℕ → Queries → Option OpenState
find_query q queries = lookup (is_same q) queries

-- the primary, the sites in order of declaration, and the open queries
pub record WorldState : Type 0 where
  pub primary : PrimaryState
  pub sites : List SiteState
  pub queries : Queries

-- a world without its queries
abbrev pub store_of : WorldState → StoreState
store_of w = record { primary = w.primary; sites = w.sites }

-- a store with open queries
abbrev pub with_queries : StoreState → Queries → WorldState
with_queries s queries = record { primary = s.primary; sites = s.sites; queries = queries }

-- a site at the start
abbrev pub first_site : Declared → SiteState
first_site setup = record { applied = 0; values = initial_state setup.objects; travelled = replicate (length setup.objects) 0 }

-- a site by what the primary knows of it: it holds the serial result of a prefix of the log, and its feed holds no more than it may
pub record HoldsFeed (log : History) (capacity : ℕ) (known : SiteProgress) (site : SiteState) : Type 0 where
  pub holds : HoldsPrefix log known.reported known.sent site
  pub feed : known.sent ≤ site.applied + capacity

-- what the primary and the sites keep
pub record IsStore (w : StoreState) : Type 0 where
  pub primary : IsPrimary w.primary
  pub count : length w.sites ≡ length w.primary.sites
  pub sites : (s : ℕ) (d : SiteState) → s < length w.sites →
      HoldsFeed w.primary.log (capacity_of w.primary.setup s) (progress_at w.primary s) (slice_index_or w.sites s d)

-- what a world keeps of an open query: its reference was acknowledged, its marks are those of the reference,
-- and what it imported is within its limit
pub record IsOpenSound (w : StoreState) (o : OpenState) : Type 0 where
  pub site : o.site < length w.sites
  pub place : o.query.place ≤ w.primary.acked
  pub count : length o.query.marks ≡ length w.primary.setup.objects
  pub marks : AreMarks w.primary.log o.query.place o.query.marks
  pub within : o.query.total ≤ o.query.limit

-- what each world keeps
pub record IsSound (w : WorldState) : Type 0 where
  pub store : IsStore (store_of w)
  pub few : length w.queries ≤ most_queries
  pub queries : (q : List ℕ) (o : OpenState) → find_query q w.queries ≡ Some o → IsOpenSound (store_of w) o

-- the acknowledged updates that a site has not applied weigh at most each of its limits that are in force now
abbrev pub KeepsLimits : WorldState → Type 0
KeepsLimits w =
    (s : ℕ) (d : SiteState) → s < length w.sites → is_lag_within w.primary s (slice_index_or w.sites s d).applied ≡ true

-- what is known of an open query: its site, its reference, its limit, and what its reads added up to
pub record OpenNumbers : Type 0 where
  pub site : ℕ
  pub place : ℕ
  pub limit : ℕ
  pub sum : ℤ
  pub total : ℕ
  pub reads : ℕ

abbrev pub numbers_of : OpenState → OpenNumbers
numbers_of o = record {
  site = o.site;
  place = o.query.place;
  limit = o.query.limit;
  sum = o.query.sum;
  total = o.query.total;
  reads = o.query.reads;
}

abbrev pub numbers_after : Opened → OpenNumbers
numbers_after o = record {
  site = o.site;
  place = o.place;
  limit = o.limit;
  sum = value_sum (values_read o.reads);
  total = import_total o.reads;
  reads = length o.reads;
}

module _ {A : Type 0} where
  -- the numbers and the values of a site are those after the accepted events
  pub record IsSiteAfter (setup : Declared) (past : Past A) (s : ℕ) (known : SiteProgress) (site : SiteState) : Type 0 where
    pub values : site.values ≡ serial (log_of setup past) (applied s past)
    pub sent : known.sent ≡ sent s past
    pub applied : site.applied ≡ applied s past
    pub reported : known.reported ≡ reported s past
    pub reports : known.reports ≡ (decisions setup past).reports s

  -- the primary and the sites are those after the accepted events, over these declarations
  pub record IsStoreAfter (setup : Declared) (w : StoreState) (past : Past A) : Type 0 where
    pub declared : w.primary.setup ≡ setup
    pub log : w.primary.log ≡ log_of setup past
    pub acked : w.primary.acked ≡ (decisions setup past).acked
    pub decided : w.primary.decided ≡ (decisions setup past).decided
    pub limits : w.primary.limits ≡ (decisions setup past).limits
    pub sites : (s : ℕ) (d : SiteState) → s < length w.sites →
        IsSiteAfter setup past s (progress_at w.primary s) (slice_index_or w.sites s d)
    pub rounds : (s : ℕ) → s < length w.sites → (progress_at w.primary s).rounds ≡ rounds setup s past
    pub windows : (s : ℕ) → s < length w.sites → (progress_at w.primary s).windows ≡ windows setup s past

  -- the world is the one after the accepted events
  pub record StandsFor (setup : Declared) (w : WorldState) (past : Past A) : Type 0 where
    pub store : IsStoreAfter setup (store_of w) past
    pub queries : (q : List ℕ) → option_map numbers_of (find_query q w.queries) ≡ option_map numbers_after (opened setup q past)
    pub count : length w.queries ≡ open_count past
