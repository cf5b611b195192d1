-- Which refusals the calls of a cluster answer.
use Rattle.std.specs.Prelude.{◌≡◌, ℕ, ◌+◌, ◌<◌, ◌≤◌, ◌⊎◌, ◌&&◌, Bool, List, Option, Some, None, length, if◌then◌else◌, not, nat_lt}
use Rattle.std.specs.Option.{option_or}
use Rattle.ordup_objects.specs.declared.change.Change.{Change}
use Rattle.ordup_objects.specs.Sizes.{most_updates}
use Rattle.ordup_objects.specs.declared.refusal.Refusal.{Refusal}
use Rattle.ordup_objects.specs.declared.refusal.Refusal.TheVariants.{UnknownObject, UnknownSite, OutOfRange, LogFull, Behind}
use Rattle.ordup_objects.specs.declared.refusal.Refusal.TheVariants.{NotYet, Stopped, NoMemory}
use Rattle.ordup_objects.specs.Refusals.{IsRefusal}
use Rattle.ordup_objects.specs.Serial.{History, serial, with_update}
use Rattle.ordup_objects.specs.States.{after}
use Rattle.ordup_objects.specs.Sets.{are_known}
use Rattle.ordup_log.specs.declared.scope.Scope.{Scope}
use Rattle.ordup_limits.specs.Limits.{scope_refusal}
use Rattle.ordup_primary.specs.LimitChanges.{limit_change_refusal}
use Rattle.ordup_primary.specs.Primaries.{PrimaryState, IsPrimary, site_view}
use Rattle.ordup_conditions.specs.declared.condition.Condition.{Condition}
use Rattle.ordup_conditions.specs.Conditions.{AreMet, are_conditions_known, first_unmet}
use Rattle.ordup_holds.specs.declared.proposal_error.ProposalError.{ProposalError}
use Rattle.ordup_holds.specs.declared.proposal_error.ProposalError.TheVariants.{Refused, Unmet}
use Rattle.ordup_holds.specs.Numbering.{IsNotNumbered, last_state}
use Rattle.ordup_cluster.specs.Clusters.{ClusterState}
use Rattle.ordup_query.specs.Queries.{QueryState, begin_refusal, read_refusal}

-- the number of an update of a store, before which this many came
abbrev pub IsNumber : ℕ → ℕ → Type 0
IsNumber before number = (before < number) × (number ≤ before + most_updates)

-- why a set with conditions is refused before the log is looked at, if it is, where the store was stopped or was not: it names an object
-- that is not there, or a condition does
abbrev pub request_refusal : Bool → ℕ → List Change → List Condition → Option Refusal
request_refusal stopped objects set conditions =
    if stopped then Some Stopped else
    if not (are_known objects set && are_conditions_known objects conditions) then Some UnknownObject else None

-- why a set with conditions is not numbered as the next update of a log
abbrev pub IsNotProposed : Bool → History → List Change → List Condition → ProposalError → Type 0
IsNotProposed stopped h set conditions e =
    ((r : Refusal) × (e ≡ Refused r) × (request_refusal stopped (length h.start) set conditions ≡ Some r))
    ⊎ ((request_refusal stopped (length h.start) set conditions ≡ None) × IsNotNumbered h set conditions e)

-- of the hold in which an update is numbered
abbrev pub IsNumberingRefusal : Refusal → Type 0
IsNumberingRefusal e = (e ≡ Stopped) ⊎ (e ≡ UnknownObject) ⊎ (e ≡ LogFull) ⊎ (e ≡ OutOfRange) ⊎ (e ≡ NoMemory)

-- of the hold in which a set with conditions is numbered: what is refused, or a condition that the state after the set would not meet, in
-- a sound primary. It is the one under the lock, which no contract sees.
abbrev pub IsNumberingError : List Change → List Condition → ProposalError → Type 0
IsNumberingError set conditions (Refused e) = IsNumberingRefusal e
IsNumberingError set conditions (Unmet index) =
    (p : PrimaryState) × IsPrimary p × (first_unmet (after set (last_state p.log)) conditions ≡ Some index)

-- the update with this number, in a store before which this many came: the state after it meets the conditions, in the log of a sound
-- primary, as the one under the lock is
abbrev pub MeetsAll : ℕ → List Change → List Condition → ℕ → Type 0
MeetsAll before set conditions number =
    (p : PrimaryState) × IsPrimary p × (number ≡ before + length p.log.sets + 1)
    × AreMet (serial (with_update p.log set) (length p.log.sets + 1)) conditions

-- of a proposal: of the hold in which it is numbered, and after that only that it is not acknowledged yet
abbrev pub IsProposalRefusal : ℕ → Refusal → Type 0
IsProposalRefusal before e = IsNumberingRefusal e ⊎ ((number : ℕ) × (e ≡ NotYet number) × IsNumber before number)

-- of a proposal with conditions
abbrev pub IsProposalError : ℕ → List Change → List Condition → ProposalError → Type 0
IsProposalError before set conditions (Refused e) = IsProposalRefusal before e
IsProposalError before set conditions (Unmet index) = IsNumberingError set conditions (Unmet index)

-- Of a settlement in a store before which this many updates came: where the number is that of no update, only that it is out of
-- range. An update that came before is acknowledged, and so never refused.
abbrev pub IsSettlementRefusal : ℕ → ℕ → Refusal → Type 0
IsSettlementRefusal before number e =
    ((e ≡ OutOfRange) × ((number ≡ 0) ⊎ (before < number)))
    ⊎ ((e ≡ NoMemory) × IsNumber before number) ⊎ ((e ≡ NotYet number) × IsNumber before number)

-- The place from which a changed limit of a site holds, in a store before which this many updates came: that of the head of a
-- primary which allows the change. It is the primary under the lock, which no contract sees.
abbrev pub IsLimitPlace : ℕ → ℕ → Scope → ℕ → ℕ → Type 0
IsLimitPlace before site scope amount place =
    (p : PrimaryState) × IsPrimary p × (place ≡ before + p.acked + 1) × (limit_change_refusal (site_view p site) scope amount ≡ None)

-- of the hold in which a limit is changed: what that primary refuses, or else that there is no memory
abbrev pub IsBookRefusal : ℕ → Scope → ℕ → Refusal → Type 0
IsBookRefusal site scope amount e = (p : PrimaryState) × IsPrimary p × IsRefusal (limit_change_refusal (site_view p site) scope amount) e

-- why a limit of a site on a scope cannot be changed in a cluster, if what was declared lacks one of the two: the scope is looked at
-- first
abbrev pub undeclared_refusal : ClusterState → ℕ → Scope → Option Refusal
undeclared_refusal c site scope =
    option_or (scope_refusal (length c.start.objects) c.start.groups scope)
    (if nat_lt site (length c.start.sites) then None else Some UnknownSite)

-- Of a change of a limit: what was declared decides alone where it lacks the scope or the site. Where it has both, it is what the
-- book says under its lock.
abbrev pub IsLimitChangeRefusal : ClusterState → ℕ → Scope → ℕ → Refusal → Type 0
IsLimitChangeRefusal c site scope amount e =
    (undeclared_refusal c site scope ≡ Some e) ⊎ ((undeclared_refusal c site scope ≡ None) × IsBookRefusal site scope amount e)

-- what a read asks for: an object at a site, for a session that has seen a number of updates
pub record ReadRequest : Type 0 where
  pub object : ℕ
  pub site : ℕ
  pub seen : ℕ

-- the cluster has the object and the site of a read
abbrev pub HasBoth : ClusterState → ReadRequest → Type 0
HasBoth c r = (r.object < length c.start.objects) × (r.site < length c.start.sites)

-- Of a read. An unknown object comes before an unknown site, and only a site that applied fewer updates than the session has seen
-- is behind it, with those that came before the store. The last case is what the cell says under its lock, which no contract sees.
abbrev pub IsReadRefusal : ClusterState → ReadRequest → Refusal → Type 0
IsReadRefusal c r e =
    ((e ≡ UnknownObject) × (length c.start.objects ≤ r.object))
    ⊎ ((e ≡ UnknownSite) × (r.object < length c.start.objects) × (length c.start.sites ≤ r.site))
    ⊎ ((applied : ℕ) × (e ≡ Behind applied) × (c.before ≤ applied) × (applied < r.seen) × HasBoth c r)
    ⊎ ((e ≡ UnknownObject) × HasBoth c r)

-- why a query with this limit is refused at a site, where there is this number of sites, if it is
abbrev pub site_query_refusal : ℕ → ℕ → ℕ → Option Refusal
site_query_refusal sites site limit = if not (nat_lt site sites) then Some UnknownSite else begin_refusal limit

-- of a read of an object by a query: what is refused for what was read before, or for some weight that it imports, has a mark
abbrev pub IsQueryRefusal : QueryState → ℕ → Refusal → Type 0
IsQueryRefusal q object e =
    (e ≡ UnknownObject) ⊎ ((object < length q.marks) × (import : ℕ) × (read_refusal q.reads q.limit q.total import ≡ Some e))
